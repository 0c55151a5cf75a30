-- Finish gives what is due.
use Prim.Native.Nat.{ℕ, zero, suc, ◌+◌, ◌*◌, ◌<◌}
use mathlib.Core.Bool.{true, false≢true}
use mathlib.Core.Path.{◌≡◌, refl, sym, ap, subst, ◌∙◌}
use mathlib.Core.Logic.{◌⊎◌, inl, inr}
use mathlib.Core.List.{List, [], ◌∷◌}
use native.Mathlib.Omega.{arith}
use lib.ListN.{length, get_or}
use lib.Seq.{get_or-set_same, get_or-set_other}
use borrow.Author.Tests.{lt-ltb, le-ltb, eq-eqb, ne_eqb}
use Rattle.std.specs.Prelude.{Option, None, Ok}
use Rattle.layout.specs.Checks.{unless, room_for}
use Rattle.layout.specs.Entries.{Entry, store, fence, Write, shift}
use Rattle.layout.specs.Image.{home_words, place_of, slot_at}
use Rattle.layout.specs.Told.{sealed_at}
use Rattle.layout.proofs.ChecksLaws.{first-both, unless-zero, answered-zero}
use Rattle.layout.specs.Homes.{Differ}
use Rattle.journal.specs.Log.{body_writes, short_writes, index_in, word_in, sealed_body}
use Rattle.journal.proofs.ChangesLaws.{below-ascending}
use Rattle.journal.proofs.LogGroups.{length-body, length-short, either-short, either-full}
use Rattle.journal.proofs.Positions.{write, pair-index, pair-word, short-count, place-record, place-words, body-count}
use Rattle.desk.specs.Desk.{no_session, copied_rec, copied_words, session_at, is_active, idle_session, with_phase, end_session}
use Rattle.desk.specs.declared.reply.StoringReply.{StoringReply}
use Rattle.desk.specs.declared.state.Phase.TheVariants.{Sealed}
use Rattle.desk.specs.Entering.{image_fault}
use Rattle.desk.specs.declared.state.Session.{Session}
use Rattle.desk.specs.declared.state.Desk.{Desk}
use Rattle.desk.proofs.Copied.{copies-below, copies-differ}
use Rattle.desk.proofs.Entered.{entered}
use Rattle.commit.specs.Finish.{finish_fault, changed_words, seal_entries, finish_entries, finish_reply}
use Rattle.commit.specs.Told.{finish_told}
use Rattle.history.specs.Call.{finish}
use Rattle.history.specs.Log.{In}
use Rattle.history.proofs.Changed.{in-below, below_in, at_in, in-at, index-ascends}
use Rattle.claims.specs.ByEntry.{entry, Closes}
use Rattle.claims.specs.FinishDue.{copy_word, home_index, home_word, Differs, Pairs, reserved_index, ListsPairs, ListsCopies, DeskWith, Seals, Empties, FinishDue}
use Rattle.claims.specs.Rules.{store_rules}
use Rattle.claims.proofs.ByEntry.{closed, closed-moved, entry-stored, entry-moved}
use Rattle.claims.proofs.Lists.{lists}
use Rattle.claims.proofs.Rows.{finish-row}

-- ---- what the log lists

module _ (img : List ℕ) (d : Desk) (s : ℕ) where
  abbrev base : ℕ
  base = slot_at d.n (place_of s (session_at d s).slot)

  -- a body, a fence, the persist number, a fence, in the slot
  abbrev sealed : List Write → List Entry
  sealed ws = shift base (sealed_body d.clock ws)

  at : (ws : List Write) (j w v : ℕ) → j < length ws → write ws j ≡ (w, v) → entry (sealed ws) j ≡ store (reserved_index d s w) v
  at ws j w v l e = entry-moved base (sealed_body d.clock ws) j (store w v) (entry-stored ws (fence ∷ store 0 d.clock ∷ fence ∷ []) j l ∙ ap (λ (x : Write). store x.0 x.1) e)

  ends : (ws : List Write) (n : ℕ) → length ws ≡ n → Closes (sealed ws) n (reserved_index d s 0) d.clock
  ends ws n e = rw (sym e) (closed-moved base _ (length ws) 0 d.clock (closed ws 0 d.clock))

  lists-pairs : (k : ℕ) (index new : ℕ → ℕ) → ListsPairs d s k index new (sealed (short_writes index new k k))
  lists-pairs k index new =
      record {
        count = at ws 0 1 (16 + k) (omega (arith, n)) (short-count index new k k);
        indexes = λ j l. at ws (1 + 2 * j) (2 + 2 * j) (index j) (omega (arith, n)) (pair-index index new k k j l);
        words = λ j l. at ws (2 + 2 * j) (3 + 2 * j) (new j) (omega (arith, n)) (pair-word index new k k j l);
        closes = ends ws (1 + 2 * k) n;
      }
    where
      ws : List Write
      ws = short_writes index new k k

      n : length ws ≡ 1 + 2 * k
      n = length-short index new k k

  lists-copies : let c = (session_at d s).count in ListsCopies d s (sealed (body_writes (copied_rec (session_at d s)) (copied_words (session_at d s)) c c))
  lists-copies =
      record {
        count = at ws 0 1 c (omega (arith, n)) (body-count rec words c c);
        records = λ j l. at ws (1 + 5 * j) (2 + 5 * j) (rec j) (omega (arith, n)) (place-record rec words c c j l);
        words = λ j m l h. at ws (2 + 5 * j + m) (3 + 5 * j + m) (copy_word d s j m) (omega (arith, n)) (place-words rec words c c j m l h);
        closes = ends ws (1 + 5 * c) n;
      }
    where
      c : ℕ
      c = (session_at d s).count

      rec : ℕ → ℕ
      rec = copied_rec (session_at d s)

      words : ℕ → List ℕ
      words = copied_words (session_at d s)

      ws : List Write
      ws = body_writes rec words c c

      n : length ws ≡ 1 + 5 * c
      n = length-body rec words c c

-- ---- exactly the words that differ

home_same : (img : List ℕ) (r m : ℕ) → m < 4 → get_or (home_words img r) m 0 ≡ home_word img (4 * r + m)
home_same img r zero l = ap (λ i. get_or img i 0) (omega arith)
home_same img r (suc zero) l = ap (λ i. get_or img i 0) (omega arith)
home_same img r (suc (suc zero)) l = ap (λ i. get_or img i 0) (omega arith)
home_same img r (suc (suc (suc zero))) l = ap (λ i. get_or img i 0) (omega arith)
home_same img r (suc (suc (suc (suc m)))) l = absurd (omega arith)

module _ (img : List ℕ) (d : Desk) (s : ℕ) (below : (j : ℕ) → j < (session_at d s).count → copied_rec (session_at d s) j < d.n)
    (differ : Differ (copied_rec (session_at d s)) (session_at d s).count) where
  abbrev rec : ℕ → ℕ
  rec = copied_rec (session_at d s)

  abbrev words : ℕ → List ℕ
  words = copied_words (session_at d s)

  abbrev changes : List Write
  changes = changed_words img d s

  differs : (i w : ℕ) → In i w changes → Differs img d s i w
  differs i w h =
      let c = in-below (home_words img) rec words (session_at d s).count d.n i w h in
      record {
        j = c.k;
        m = c.m;
        copy = c.k<;
        place = c.m<;
        index = c.index;
        new = c.content;
        other = λ e. c.differs (home_same img (rec c.k) c.m c.m< ∙ ap (home_word img) (sym c.index) ∙ e ∙ c.content);
      }

  listed : (i w : ℕ) → Differs img d s i w → In i w changes
  listed i w c = go (below_in (home_words img) rec words (session_at d s).count d.n c.j c.m c.copy c.place (below c.j c.copy) differ)
    where
      go : In (home_index d s c.j c.m) (copy_word d s c.j c.m) changes ⊎ (get_or (home_words img (rec c.j)) c.m 0 ≡ copy_word d s c.j c.m)
          → In i w changes
      go (inl a) = rw (c.index, c.new) a
      go (inr e) =
          absurd (c.other (ap (home_word img) c.index ∙ sym (home_same img (rec c.j) c.m c.place) ∙ e ∙ sym c.new))

  pub pairs : Pairs img d s (length changes) (index_in changes) (word_in changes)
  pairs =
      record {
        only = λ j l. differs _ _ (at_in changes j l);
        all = λ i w c. in-at changes i w (listed i w c);
        ascends = λ j l. index-ascends 0 (4 * d.n) changes (below-ascending (home_words img) rec words (session_at d s).count d.n) j (suc j) (omega arith) l;
        below = λ j l. let c = differs _ _ (at_in changes j l) in omega (arith, c.index, c.place, below c.j c.copy);
      }

-- ---- past the checks

-- an active session is one of the desk's
inside : (xs : List Session) (s : ℕ) → is_active (get_or xs s no_session).phase ≡ true → s < length xs
inside [] s e = absurd (false≢true e)
inside (x ∷ xs) zero e = omega arith
inside (x ∷ xs) (suc s) e = omega (arith, inside xs s e)

-- a desk with another session in its place
desk-with : (img : List ℕ) (d : Desk) (len s : ℕ) → finish_fault img d len s ≡ 0 → (x : Session) → DeskWith d s x (end_session d s x d.holders)
unfolding finish_fault
desk-with img d len s z x =
    let active = unless-zero _ 5 (first-both (unless (is_active (session_at d s).phase) 6) _ (first-both (image_fault img d (room_for len) s) _ z).1).0 in
    record {
      session = get_or-set_same d.sessions s x no_session (inside d.sessions s active);
      others = λ t n. get_or-set_other d.sessions s t x no_session n;
      clock = refl;
      marks = refl;
      n-same = refl;
      m-same = refl;
    }

module _ (img : List ℕ) (d : Desk) (len s : ℕ) (z : finish_fault img d len s ≡ 0) (some : (session_at d s).count ≡ 0 → ⊥) where
  abbrev c : ℕ
  c = (session_at d s).count

  abbrev ws : List Write
  ws = changed_words img d s

  entries : (store_rules.call img d (finish len s)).entries ≡ seal_entries img d s
  unfolding finish_entries
  entries = answered-zero (finish_fault img d len s) _ _ z ∙ rw (ne_eqb c 0 some)

  told : (store_rules.call img d (finish len s)).told ≡ sealed_at d.clock
  unfolding finish_reply
  told = ap (λ (r : StoringReply (Option ℕ)). finish_told r.answer) (answered-zero (finish_fault img d len s) _ _ z) ∙ rw (ne_eqb c 0 some)

  differing : Pairs img d s (length ws) (index_in ws) (word_in ws)
  unfolding finish_fault
  differing =
      let h = entered img d (room_for len) s (first-both (image_fault img d (room_for len) s) _ z).0 in
      pairs img d s (copies-below d h.coherent s h.small) (copies-differ d h.coherent s h.small)

  desk-is : (store_rules.call img d (finish len s)).desk ≡ end_session d s (with_phase (session_at d s) (Sealed d.clock)) d.holders
  unfolding finish_reply
  desk-is = ap (λ (r : StoringReply (Option ℕ)). r.desk) (answered-zero (finish_fault img d len s) _ _ z) ∙ rw (ne_eqb c 0 some)

  seals : Seals img d s (store_rules.call img d (finish len s))
  seals =
      record {
        k = length ws;
        index = index_in ws;
        new = word_in ws;
        pairs = differing;
        short = λ l.
            subst (ListsPairs d s (length ws) (index_in ws) (word_in ws))
            (sym (entries ∙ ap (sealed img d s) (either-short (index_in ws) (word_in ws) (length ws) _ _ c (lt-ltb (2 * length ws) (5 * c) l))))
            (lists-pairs img d s (length ws) (index_in ws) (word_in ws));
        full = λ l.
            subst (ListsCopies d s)
            (sym (entries ∙ ap (sealed img d s) (either-full (index_in ws) (word_in ws) (length ws) _ _ c (le-ltb (2 * length ws) (5 * c) l))))
            (lists-copies img d s);
        told = told;
        count = (lists.finish img d len s).counted;
        desk = rw desk-is (desk-with img d len s z (with_phase (session_at d s) (Sealed d.clock)));
      }

module _ (img : List ℕ) (d : Desk) (len s : ℕ) (z : finish_fault img d len s ≡ 0) (none : (session_at d s).count ≡ 0) where
  empty-reply : finish_reply img d len s ≡ record { answer = Ok None; entries = 0; desk = end_session d s idle_session d.holders }
  unfolding finish_reply
  empty-reply = answered-zero (finish_fault img d len s) _ _ z ∙ rw (eq-eqb (session_at d s).count 0 none)

  no-entries : (store_rules.call img d (finish len s)).entries ≡ []
  unfolding finish_entries
  no-entries = answered-zero (finish_fault img d len s) _ _ z ∙ rw (eq-eqb (session_at d s).count 0 none)

  empties : Empties d s (store_rules.call img d (finish len s))
  empties =
      record {
        told = ap (λ (x : StoringReply (Option ℕ)). finish_told x.answer) empty-reply;
        entries = no-entries;
        count = ap (λ (x : StoringReply (Option ℕ)). x.entries) empty-reply;
        desk = rw (ap (λ (x : StoringReply (Option ℕ)). x.desk) empty-reply) (desk-with img d len s z idle_session);
      }

pub finish-due : FinishDue store_rules
finish-due =
    record {
      seals = λ img d len s z. seals img d len s (finish-row img d len s ∙ z);
      empties = λ img d len s z e. empties img d len s (finish-row img d len s ∙ z) e;
    }
