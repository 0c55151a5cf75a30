-- Sets, what a group does on any image and desk, and that single publish is the case of one member.
use Prim.Native.Nat.{ℕ, zero, suc, ◌+◌, ◌*◌, ◌^◌, ◌/◌, ◌%◌, ◌≤◌, ◌<◌}
use mathlib.Core.Bool.{Bool, true, false, cond, ◌&&◌, false≢true}
use mathlib.Core.Path.{◌≡◌, refl, sym, ap, ◌∙◌}
use mathlib.Core.List.{List, []}
use native.Mathlib.Omega.{arith}
use lib.Dec.{eqb, leb}
use lib.ListN.{set as put}
use lib.Pow.{mod-pow-add}
use lib.Seq.{get_or-set_same, get_or-set_other}
use borrow.Author.Tests.{lt-ltb, leb-true}
use Rattle.layout.specs.Ceiling.{raise_entries, pass_entries}
use Rattle.layout.specs.Checks.{answered, room_for}
use Rattle.layout.specs.Entries.{made}
use Rattle.layout.specs.Image.{records_of, sessions_of, ceiling_of}
use Rattle.layout.specs.Told.{is_refusal}
use Rattle.layout.proofs.ChecksLaws.{first-both}
use Rattle.layout.proofs.Says.{says-and, says_eq, says-le}
use Rattle.desk.specs.Coherent.{coherent_b}
use Rattle.desk.specs.Desk.{copied_rec, session_at, mark_at}
use Rattle.desk.specs.Entering.{agrees_b}
use Rattle.desk.specs.Group.{member, store_fault, set_fault, group_fault, group_entries, grouped, group_reply}
use Rattle.desk.specs.Publish.{end_entries, publish_refused}
use Rattle.desk.specs.Told.{publish_told}
use Rattle.desk.specs.declared.state.Desk.{Desk}
use Rattle.desk.proofs.Copied.{copies-four, copies-below}
use Rattle.desk.proofs.Entered.{Entered, entered}
use Rattle.desk.proofs.Facts.{says-coherent}
use Rattle.desk.proofs.GroupDesk.{member-small, Loaded, loaded, grouped-at, one-reply, one-entries}
use Rattle.desk.proofs.GroupLaws.{store-checks}
use Rattle.history.specs.Looks.{no_looks}
use Rattle.claims.specs.Rules.{store_rules}
use Rattle.claims.specs.Together.{worth_below, SetsRead, GroupRight, GroupStores, OneMember}
use Rattle.claims.proofs.SteadyGroup.{grouped-coherent}

-- ---- sets

bit : (b : ℕ) → b < 2 → (w : ℕ) → cond (eqb b 1) w 0 ≡ b * w
bit zero l w = omega arith
bit (suc zero) l w = omega arith
bit (suc (suc b)) l w = absurd (omega arith)

-- the bits below n are worth what is left of the set by 2 to the n
worth-below : (set n : ℕ) → n ≤ 16 → worth_below n (λ s. member s set) ≡ set % 2 ^ n
unfolding worth_below member
worth-below set zero l = omega arith
worth-below set (suc n) l =
    let more : set % 2 ^ suc n ≡ set / 2 ^ n % 2 * 2 ^ n + set % 2 ^ n = ap (λ (k : ℕ). set % 2 ^ k) (one-add n) ∙ mod-pow-add set 1 n in
    rw (lt-ltb n 16 l, worth-below set n (omega arith), bit (set / 2 ^ n % 2) (omega arith) (2 ^ n), more) (omega arith)
  where
    one-add : (k : ℕ) → suc k ≡ 1 + k
    one-add k = omega arith

pub sets-read : SetsRead
sets-read = record { worth = λ set l. worth-below set 16 (omega arith) ∙ omega (arith, l); few = member-small }

-- ---- on any image and desk

-- past the checks
module _ (img : List ℕ) (d : Desk) (len set : ℕ) (z : group_fault img d len set ≡ 0) where
  checks : (store_fault img d len ≡ 0) × (set_fault d set ≡ 0)
  unfolding group_fault
  checks = first-both (store_fault img d len) _ z

  facts : Entered img d (room_for len) 0
  facts = entered img d (room_for len) 0 (store-checks img d len ∙ checks.0)

  passed : Loaded d set
  passed = loaded d set checks.1

  -- a record that a member copies is marked for it
  marked : (s i : ℕ) → member s set ≡ true → i < (session_at d s).count → mark_at d (copied_rec (session_at d s) i) ≡ s + 1
  marked s i y l =
      let small = member-small s set y in
      let known = facts.coherent in
      ((known.marks (copied_rec (session_at d s) i) (omega (arith, copies-below d known s small i l, known.n-high))).0.1 s small).1
      (i, omega (arith, l, copies-four d known s small), (l, refl))

  members-apart : (s t i j : ℕ) → member s set ≡ true → member t set ≡ true → i < (session_at d s).count → j < (session_at d t).count
      → copied_rec (session_at d s) i ≡ copied_rec (session_at d t) j → s ≡ t
  members-apart s t i j y w l k e =
      let one : s + 1 ≡ t + 1 = sym (marked s i y l) ∙ ap (mark_at d) e ∙ marked t j w k in omega arith

  -- the header behind the raise
  abbrev Agrees : List ℕ → Type 0
  Agrees img' = ((d.n ≡ records_of img') × (d.m ≡ sessions_of img')) × (d.clock + 1 ≤ ceiling_of img')

  agrees : Agrees (made (pass_entries img (d.clock + 1)) img)
  agrees = go (leb (d.clock + 1) (ceiling_of img)) refl
    where
      go : (b : Bool) → leb (d.clock + 1) (ceiling_of img) ≡ b → Agrees (made (cond b [] (raise_entries (d.clock + 1))) img)
      go true e = ((facts.n-same, facts.m-same), leb-true _ _ e)
      go false e =
          let stored : ceiling_of (put img 3 (d.clock + 1 + 1024)) ≡ d.clock + 1 + 1024 = get_or-set_same img 3 _ 0 (omega (arith, facts.shaped.size)) in (
            (
              facts.n-same ∙ sym (get_or-set_other img 3 1 _ 0 (λ q. omega arith)),
              facts.m-same ∙ sym (get_or-set_other img 3 2 _ 0 (λ q. omega arith)),
            ),
            omega (arith, stored),
          )

  coherent-behind : (coherent_b (grouped img d set).desk && agrees_b (made (pass_entries img (d.clock + 1)) img) (d.clock + 1) d.n d.m) ≡ true
  coherent-behind =
      let after = made (pass_entries img (d.clock + 1)) img in
      (says-and (says-coherent (grouped img d set).desk)
      (says-and (says-and (says_eq d.n (records_of after)) (says_eq d.m (sessions_of after))) (says-le (d.clock + 1) (ceiling_of after)))
      ).no (grouped-coherent img d set facts.coherent passed, agrees)

pub group-stores : GroupStores store_rules
unfolding group_reply group_entries group_fault answered
group-stores img d len set e = go (group_fault img d len set) refl e
  where
    go : (k : ℕ) → group_fault img d len set ≡ k → is_refusal (publish_told (answered k (publish_refused d) (grouped img d set)).answer) ≡ false
        → GroupRight img d set (record {
          told = publish_told (answered k (publish_refused d) (grouped img d set)).answer;
          entries = end_entries k img d;
          count = (answered k (publish_refused d) (grouped img d set)).entries;
          desk = (answered k (publish_refused d) (grouped img d set)).desk;
          looks = no_looks;
        })
    go zero z e =
        let r = passed img d len set z in
        record {
          as-publish = record { ends = refl; ticks = refl; stores = refl };
          members = λ s y. grouped-at img d set r s ∙ rw y refl;
          others = λ s n. grouped-at img d set r s ∙ rw n refl;
          marks = refl;
          list = refl;
          n-same = refl;
          m-same = refl;
          apart = members-apart img d len set z;
          coherent = coherent-behind img d len set z;
        }
    go (suc k) z e = absurd (false≢true (sym e))

pub one-member : OneMember store_rules
one-member img d len s l = rw (one-reply s l img d len, one-entries s l img d len) refl
