-- The store's recover, on a good image, does what history's does; so what is proved of history's holds of the store's.
use Prim.Native.Nat.{ℕ, zero, suc, ◌+◌, ◌*◌, ◌≤◌, ◌<◌}
use mathlib.Core.Bool.{Bool, true, false, cond, not}
use mathlib.Core.Path.{◌≡◌, refl, sym, ap, ◌∙◌}
use mathlib.Core.Logic.{◌⊎◌, inl, inr, ◌≢◌}
use mathlib.Core.List.{List, [], ◌∷◌, ◌++◌, append-nil}
use native.Mathlib.Decide.{ℕ_discrete, dec_lt}
use native.Mathlib.Numerals.{add-one}
use native.Mathlib.Nat.{add-zero}
use native.Mathlib.Omega.{arith}
use lib.Dec.{eqb}
use lib.ListN.{length, get_or}
use lib.Seq.{take-nil}
use borrow.Author.Tests.{le-leb, lt-leb, eq-eqb, ne_eqb, eqb-false}
use Rattle.layout.specs.Below.{count_below, lowest}
use Rattle.layout.proofs.BelowLaws.{lowest-more}
use Rattle.layout.specs.Checks.{first, answered}
use Rattle.layout.proofs.ChecksLaws.{answered-zero}
use Rattle.layout.specs.Entries.{Entry, made, ends_fenced}
use Rattle.layout.specs.Image.{records_of, sessions_of, shaped_b, slot_at, slot_word, persist_at, occupied_at, ceiling_of}
use Rattle.layout.specs.Refusal.{cause}
use Rattle.layout.specs.Told.{Told, refusal, clean, replayed, code_told}
use Rattle.journal.specs.Log.{unsound_b, used_of, touched_of}
use Rattle.layout.proofs.Least.{Least, oldest-is}
use Rattle.layout.proofs.Says.{says_any, says-not}
use Rattle.layout.proofs.Shape.{says-shaped}
use Rattle.recovery.specs.Recover.{slots_of, log_at, unsound_place, tied_below, ties_b, recover_fault, first_log, clean_b, replay_entries, recover_entries, recover_done, recover_refused, recover_reply}
use Rattle.recovery.specs.Told.{recover_told}
use Rattle.recovery.specs.declared.recovering.RecoverReply.{RecoverReply}
use Rattle.history.specs.Log.{Occupied, Puts, Clean, Oldest}
use Rattle.history.specs.Layout.{view, Good}
use Rattle.history.specs.Recover.{replay_at, Reach, whole as to_end, broken as cut_off, reached}
use Rattle.history.proofs.Cuts.{made-append, crash-behind, arrived-all, ends-append}
use Rattle.history.specs.Desk.{spot}
use Rattle.history.proofs.LogForm.{Touching, sound-touches}
use Rattle.history.proofs.Places.{slot_at-apart}
use Rattle.history.proofs.Theorems.{Carries, step-carries, step-elsewhere, step-empties}
use Rattle.claims.specs.Rules.{store_rules}
use Rattle.claims.specs.Recovery.{replays, after_calls, after_stop, Attempt, after_attempt, after_attempts, after_whole, Ends}
use Rattle.claims.proofs.Lists.{lists}
use Rattle.claims.proofs.SameLog.{same_log, same-sound, sound-passes, Tied, says-tied}
use Rattle.layout.proofs.Counts.{count-changed}

-- header and length are right, for N records and M sessions
pub record Whole (N M : ℕ) (img : List ℕ) : Type 0 where
  pub shaped : shaped_b img ≡ true
  pub records : records_of img ≡ N
  pub sessions : sessions_of img ≡ M

-- an image of the same length with the same N and M is as whole
pub whole_again : (N M : ℕ) (img img' : List ℕ) → Whole N M img → ((j : ℕ) → j < 3 → get_or img' j 0 ≡ get_or img j 0) → length img' ≡ 4 + 4 * N + 44 * M → Whole N M img'
whole_again N M img img' h low long =
    let s = (says-shaped img).yes h.shaped in
    let n : records_of img' ≡ records_of img = low 1 (omega arith) in
    let m : sessions_of img' ≡ sessions_of img = low 2 (omega arith) in
    record {
      shaped =
          (says-shaped img').no
          (record { mark = low 0 (omega arith) ∙ s.mark; range = rw (n, m) s.range; size = long ∙ omega (arith, n, m, h.records, h.sessions) });
      records = n ∙ h.records;
      sessions = m ∙ h.sessions;
    }

-- a test that fails of every number below n finds none
lowest-all : (p : ℕ → Bool) (n : ℕ) → ((i : ℕ) → i < n → p i ≡ false) → lowest n p ≡ n
lowest-all p zero h = unfold lowest in refl
lowest-all p (suc n) h = rw add-one at (lowest-more p n (lowest-all p n (λ i l. h i (omega arith))) (h n (omega arith)))

-- ---- the checks

module _ (N M : ℕ) (img : List ℕ) (w : Whole N M img) (g : Good N M img) where
  -- a slot whose first word is not 0 is occupied
  occupied : (p : ℕ) → p < 2 * M → (slot_word img N p 0 ≡ 0 → ⊥) → Occupied (2 * M) (view N img) p
  occupied p l o = (l, λ e. o (rw add-zero e))

  -- check 12 passes: an occupied slot is sound
  none-unsound : unsound_place img ≡ slots_of img
  unfolding unsound_place
  none-unsound =
      rw (w.records, w.sessions)
      (lowest-all (λ p. unsound_b N (slot_word img N p)) (2 * M)
      (λ p l. sound-passes N (slot_word img N p) (λ o. same-sound N img p (g.sound p (occupied p l o)))))

  -- an occupied slot writes a home word of each record that it touches
  puts-touched : (p : ℕ) (o : Occupied (2 * M) (view N img) p) (r : ℕ) (t : Touching (slot_word img N p) r) → Puts (2 * M) (view N img) p (spot r t.m) t.v
  puts-touched p o r t = record { occupied = o; written = rw (same_log N img p (g.sound p o)) t.written }

  touching : (p : ℕ) → Occupied (2 * M) (view N img) p → (j : ℕ) → j < used_of (slot_word img N p) → Touching (slot_word img N p) (touched_of (slot_word img N p) j)
  touching p o j l = sound-touches N (slot_word img N p) (same-sound N img p (g.sound p o)) j l

  -- so two slots with one number have no record in common
  never-tied : (p q : ℕ) → p < 2 * M → q < p → Tied (slot_word img N p) (slot_word img N q) → ⊥
  never-tied p q l m t =
      let j = t.1 in
      let i = j.2.1 in
      let op = occupied p l t.0.0 in
      let oq = occupied q (omega arith) (λ e. t.0.0 (t.0.1 ∙ e)) in
      let a = touching p op j.0 j.2.0 in
      let b = rw i.2.1 at (touching q oq i.0 i.2.0) in
      g.apart p q (touched_of (slot_word img N p) j.0) a.m b.m a.v b.v a.m< b.m< (λ e. omega arith)
      (puts-touched p op _ a) (puts-touched q oq _ b) (simp add-zero at t.0.1)

  -- check 13 passes
  no-ties : ties_b img ≡ false
  unfolding ties_b tied_below
  no-ties =
      says-not (says_any (slots_of img) (λ p. says_any p (λ q. says-tied (log_at img p) (log_at img q))))
      (rw (w.records, w.sessions) (λ t. never-tied t.0 t.2.0 t.1 t.2.1 t.2.2))

  number_is : (p : ℕ) → (view N img).number p ≡ persist_at img N p
  number_is p = rw add-zero refl

  -- recover finds no log, or the oldest
  abbrev Finds : Type 0
  Finds = (Clean (2 * M) (view N img) × ((first_log img).number ≡ 0)) ⊎ (Oldest (2 * M) (view N img) (first_log img).place × ((first_log img).number ≢ 0))

  pub finds : Finds
  finds = go (ℕ_discrete (first_log img).number 0)
    where
      least : Least (persist_at img N) (2 * M) (first_log img)
      least = unfold first_log in (rw (w.records, w.sessions) (oldest-is (persist_at img N) (2 * M)))

      go : Dec ((first_log img).number ≡ 0) → Finds
      go (yes e) = inl (λ p l. number_is p ∙ least.none e p l, e)
      go (no n) = inr (
        record {
          occupied = ((least.some n).0, λ z. n (sym (least.some n).1 ∙ sym (number_is _) ∙ z));
          least = λ q o. omega (arith, number_is (first_log img).place, (least.some n).1, number_is q, least.least q o.0 (λ z. o.1 (number_is q ∙ z)));
        },
        n,
      )

-- ---- one call

module _ (N M : ℕ) (img : List ℕ) (len : ℕ) (w : Whole N M img) (g : Good N M img) where
  -- with room in the trace recover refuses nothing
  recover-passes : 48 ≤ len → recover_fault img len ≡ 0
  unfolding recover_fault first
  recover-passes room = rw (w.shaped, le-leb 48 len room, eq-eqb _ _ (none-unsound N M img w g), no-ties N M img w g)

  -- so it lists and tells what it does
  lists-done : 48 ≤ len → recover_entries img len ≡ cond (clean_b img) [] (replay_entries img (first_log img).place)
  unfolding recover_entries
  lists-done room = answered-zero (recover_fault img len) _ _ (recover-passes room)

  tells-done : 48 ≤ len → (store_rules.recover img len).told ≡ recover_told (recover_done img).answer
  unfolding recover_reply
  tells-done room = ap (λ (r : RecoverReply). recover_told r.answer) (answered-zero (recover_fault img len) _ _ (recover-passes room))

  -- without a log nothing, and "clean"
  clean-entries : 48 ≤ len → (first_log img).number ≡ 0 → recover_entries img len ≡ []
  clean-entries room e = lists-done room ∙ rw (eq-eqb _ _ e)

  clean-tells : 48 ≤ len → (first_log img).number ≡ 0 → (store_rules.recover img len).told ≡ clean
  clean-tells room e = tells-done room ∙ rw (eq-eqb _ _ e)

  -- else the oldest log is applied, and "replayed"
  log-entries : 48 ≤ len → Oldest (2 * M) (view N img) (first_log img).place → (first_log img).number ≢ 0 → recover_entries img len ≡ replay_at N img (first_log img).place
  log-entries room o n = lists-done room ∙ rw (ne_eqb _ _ n, w.records, ← same_log N img (first_log img).place (g.sound (first_log img).place o.occupied))

  log-tells : 48 ≤ len → (first_log img).number ≢ 0 → (store_rules.recover img len).told ≡ replayed (first_log img).number
  log-tells room n = tells-done room ∙ rw (ne_eqb _ _ n)

  -- without room it is refused
  short : len < 48 → recover_fault img len ≡ 3
  unfolding recover_fault first
  short l = rw (w.shaped, lt-leb 48 len l)

  short-entries : len < 48 → recover_entries img len ≡ []
  unfolding recover_entries answered
  short-entries l = rw (short l) refl

  short-tells : len < 48 → (store_rules.recover img len).told ≡ refusal 3
  unfolding recover_reply recover_refused answered cause
  short-tells l = rw (short l) refl

  -- where it tells "clean" no slot is occupied, and nothing is stored
  pub clean-told : (store_rules.recover img len).told ≡ clean → Clean (2 * M) (view N img) × (recover_entries img len ≡ [])
  clean-told e = by-room (dec_lt len 48)
    where
      not-clean : {t : Told} → t ≡ clean → eqb (code_told t) 32 ≡ false → ⊥
      not-clean e b = eqb-false _ _ b (ap code_told e)

      by-log : 48 ≤ len → Finds N M img w g → Clean (2 * M) (view N img) × (recover_entries img len ≡ [])
      by-log room (inl c) = (c.0, clean-entries room c.1)
      by-log room (inr o) = absurd (not-clean (sym (log-tells room o.1) ∙ e) refl)

      by-room : Dec (len < 48) → Clean (2 * M) (view N img) × (recover_entries img len ≡ [])
      by-room (yes l) = absurd (not-clean (sym (short-tells l) ∙ e) refl)
      by-room (no n) = by-log (omega arith) (finds N M img w g)

-- ---- what calls of recover leave

-- img' is whole and good where img is, and has the same ceiling and the same final words
pub record Follows (N M : ℕ) (img img' : List ℕ) : Type 0 where
  pub whole : Whole N M img'
  pub ceiling : ceiling_of img' ≡ ceiling_of img
  pub carries : Carries N M img img'

pub follows-self : (N M : ℕ) (img : List ℕ) → Whole N M img → Good N M img → Follows N M img img
follows-self N M img w g = record { whole = w; ceiling = refl; carries = record { good = g; final = λ i x h f. f } }

follows_then : {N M : ℕ} {a b c : List ℕ} → Follows N M a b → Follows N M b c → Follows N M a c
follows_then p q =
    record { whole = q.whole; ceiling = q.ceiling ∙ p.ceiling; carries = record { good = q.carries.good; final = λ i x h f. q.carries.final i x h (p.carries.final i x h f) } }

module _ (N M : ℕ) (img : List ℕ) (w : Whole N M img) (g : Good N M img) where
  -- a step, whole or broken off anywhere, keeps header and length
  step_follows : (p : ℕ) → Oldest (2 * M) (view N img) p → (a : Reach) → Follows N M img (reached a (replay_at N img p) img)
  step_follows p o a =
      record {
        whole = whole_again N M img _ w (λ j l. step-elsewhere N M img g p o a j (λ h. omega arith) (λ e. omega arith)) (step-carries N M img g p o a).good.whole;
        ceiling = step-elsewhere N M img g p o a 3 (λ h. omega arith) (λ e. omega arith);
        carries = step-carries N M img g p o a;
      }

  -- a call, whole or broken off anywhere, with a trace of any length
  pub call-follows : (len : ℕ) (a : Reach) → Follows N M img (reached a (recover_entries img len) img)
  call-follows len a = go (dec_lt len 48)
    where
      nothing : (a : Reach) → reached a [] img ≡ img
      nothing to_end = refl
      nothing (cut_off k sel) = rw (take-nil {A = Entry} k) refl

      by-log : 48 ≤ len → Finds N M img w g → Follows N M img (reached a (recover_entries img len) img)
      by-log room (inl c) = rw (clean-entries N M img len w g room c.1, nothing a) (follows-self N M img w g)
      by-log room (inr o) = rw (log-entries N M img len w g room o.0 o.1) (step_follows (first_log img).place o.0 a)

      go : Dec (len < 48) → Follows N M img (reached a (recover_entries img len) img)
      go (yes l) = rw (short-entries N M img len w g l, nothing a) (follows-self N M img w g)
      go (no n) = by-log (omega arith) (finds N M img w g)

-- ---- calls one after the other

replays-fenced : (lens : List ℕ) (img : List ℕ) → ends_fenced (replays store_rules lens img) ≡ true
unfolding replays
replays-fenced [] img = refl
replays-fenced (len ∷ rest) img = ends-append (recover_entries img len) _ (lists.recover img len).fenced (replays-fenced rest _)

pub calls-follow : (N M : ℕ) (lens : List ℕ) (img : List ℕ) → Whole N M img → Good N M img → Follows N M img (after_calls store_rules lens img)
unfolding replays
calls-follow N M [] img w g = follows-self N M img w g
calls-follow N M (len ∷ rest) img w g =
    let a = call-follows N M img w g len to_end in
    let b = calls-follow N M rest (made (recover_entries img len) img) a.whole a.carries.good in
    rw (made-append (recover_entries img len) (replays store_rules rest (made (recover_entries img len) img)) img) (follows_then a b)

-- all of their stores arrive
pub stop-made : (lens : List ℕ) (sel : ℕ → Bool) (img : List ℕ) → after_stop store_rules lens sel img ≡ after_calls store_rules lens img
stop-made lens sel img = arrived-all sel (replays store_rules lens img) img (replays-fenced lens img)

-- one call more
pub calls-more : (lens : List ℕ) (len : ℕ) (img : List ℕ)
    → after_calls store_rules (lens ++ (len ∷ [])) img ≡ made (recover_entries (after_calls store_rules lens img) len) (after_calls store_rules lens img)
unfolding replays
calls-more [] len img = ap (λ es. made es img) (append-nil (recover_entries img len))
calls-more (l ∷ lens) len img =
    made-append (recover_entries img l) _ img
    ∙ calls-more lens len (made (recover_entries img l) img)
    ∙ ap (λ i. made (recover_entries i len) i) (sym (made-append (recover_entries img l) _ img))

-- ---- attempts

pub attempt-follows : (N M : ℕ) (a : Attempt) (img : List ℕ) → Whole N M img → Good N M img → Follows N M img (after_attempt store_rules a img)
unfolding after_attempt
attempt-follows N M a img w g =
    let b = calls-follow N M a.whole img w g in
    let c = crash-behind a.entries a.arrives (replays store_rules a.whole img) (recover_entries (after_calls store_rules a.whole img) a.last) img (replays-fenced a.whole img) in
    rw c.1 (follows_then b (call-follows N M (after_calls store_rules a.whole img) b.whole b.carries.good a.last (cut_off a.entries c.0)))

pub attempts-follow : (N M : ℕ) (attempts : List Attempt) (img : List ℕ) → Whole N M img → Good N M img → Follows N M img (after_attempts store_rules attempts img)
unfolding after_attempts
attempts-follow N M [] img w g = follows-self N M img w g
attempts-follow N M (a ∷ rest) img w g =
    let b = attempt-follows N M a img w g in
    follows_then b (attempts-follow N M rest (after_attempt store_rules a img) b.whole b.carries.good)

-- ---- the caller repeats until clean

-- the number of occupied slots
abbrev pub logs_in : ℕ → ℕ → List ℕ → ℕ
logs_in N M img = count_below (2 * M) (occupied_at img N)

module _ (N M : ℕ) (x : ℕ → ℕ) (img : List ℕ) (w : Whole N M img) (g : Good N M img) where
  -- the image after a call
  abbrev next : List ℕ
  next = made (recover_entries img (48 + x 0)) img

  after : Follows N M img next
  after = call-follows N M img w g (48 + x 0) to_end

  -- at once
  ends_now : (first_log img).number ≡ 0 → Ends store_rules x img
  unfolding after_whole
  ends_now e =
      record {
        calls = 0;
        few = omega arith;
        replayed-each = λ i l. absurd (omega arith);
        then-clean = clean-tells N M img (48 + x 0) w g (omega arith) e;
      }

  module _ (o : Oldest (2 * M) (view N img) (first_log img).place) (n : (first_log img).number ≢ 0) where
    -- one log fewer
    fewer : suc (logs_in N M next) ≡ logs_in N M img
    fewer =
        let c = count-changed (occupied_at next N) (occupied_at img N) (first_log img).place others (2 * M) o.occupied.0 in
        let a : occupied_at next N (first_log img).place ≡ false = ap not (eq-eqb (persist_at next N (first_log img).place) 0 (rw add-zero emptied)) in
        let b : occupied_at img N (first_log img).place ≡ true = ap not (ne_eqb (persist_at img N (first_log img).place) 0 (λ z. o.occupied.1 (number_is N M img w g (first_log img).place ∙ z))) in
        let d = rw (a, b) at c in
        omega (arith, d)
      where
        listed : recover_entries img (48 + x 0) ≡ replay_at N img (first_log img).place
        listed = log-entries N M img (48 + x 0) w g (omega arith) o n

        emptied : get_or next (slot_at N (first_log img).place) 0 ≡ 0
        emptied = rw listed (step-empties N M img g (first_log img).place o)

        others : (q : ℕ) → (q ≡ (first_log img).place → ⊥) → occupied_at next N q ≡ occupied_at img N q
        others q d =
            let e : get_or next (slot_at N q) 0 ≡ get_or img (slot_at N q) 0 =
            rw listed (step-elsewhere N M img g (first_log img).place o to_end (slot_at N q) (λ h. omega arith) (slot_at-apart N q (first_log img).place d)) in
            let f : persist_at next N q ≡ persist_at img N q = rw add-zero e in
            ap (λ k. not (eqb k 0)) f

    -- a call, and those after it
    ends-after : Ends store_rules (λ i. x (suc i)) next → Ends store_rules x img
    unfolding after_whole
    ends-after e =
        record {
          calls = suc e.calls;
          few = rw (w.records, w.sessions) (omega (arith, rw (after.whole.records, after.whole.sessions) at e.few, fewer));
          replayed-each = each;
          then-clean = e.then-clean;
        }
      where
        each : (i : ℕ) → i < suc e.calls → (q : ℕ) × ((store_rules.recover (after_whole store_rules x i img) (48 + x i)).told ≡ replayed q)
        each zero l = ((first_log img).number, log-tells N M img (48 + x 0) w g (omega arith) n)
        each (suc i) l = e.replayed-each i (omega arith)

pub ends : (k N M : ℕ) (x : ℕ → ℕ) (img : List ℕ) → Whole N M img → Good N M img → logs_in N M img ≤ k → Ends store_rules x img
ends zero N M x img w g h = go (finds N M img w g)
  where
    go : Finds N M img w g → Ends store_rules x img
    go (inl c) = ends_now N M x img w g c.1
    go (inr o) = absurd (omega (arith, fewer N M x img w g o.0 o.1))
ends (suc k) N M x img w g h = go (finds N M img w g) (λ b. ends k N M (λ i. x (suc i)) (next N M x img w g) (after N M x img w g).whole (after N M x img w g).carries.good b)
  where
    go : Finds N M img w g → (logs_in N M (next N M x img w g) ≤ k → Ends store_rules (λ i. x (suc i)) (next N M x img w g)) → Ends store_rules x img
    go (inl c) ih = ends_now N M x img w g c.1
    go (inr o) ih = ends-after N M x img w g o.0 o.1 (ih (omega (arith, fewer N M x img w g o.0 o.1)))
