-- Every copy or home read, and every record that a search looked at, gave the words that the history names, at the cut too.
use Prim.Native.Nat.{ℕ, suc, ◌≤◌, ◌<◌}
use mathlib.Core.Path.{◌≡◌, refl, sym, ap, ◌∙◌, subst}
use mathlib.Core.Bool.{Bool, true, false, cond, not, ◌&&◌, ◌||◌, false≢true}
use mathlib.Core.Option.{Option, none, some}
use mathlib.Core.List.{List, [], ◌∷◌, ◌++◌}
use native.Mathlib.Decide.{ℕ_discrete}
use native.Mathlib.Omega.{arith}
use lib.Dec.{T, leb, nleb→lt, eqb→eq}
use lib.ListN.{get_or}
use borrow.Author.Tests.{eq-eqb}
use Rattle.layout.specs.Told.{Told, found_at, is, is_refusal, value_of, words_told, Copy, Home, None, Found}
use Rattle.history.specs.Call.{Listening, Begin, Read, Finish, Find, Call, begin, read, write, abandon, finish, publish, group, settle, reclaim, listen}
use Rattle.history.specs.Desk.{Copy as TxnCopy, find, Session, idle, active, sealed, published, holder}
use Rattle.history.specs.Due.{Due, refuse, four_words, shown_by, reads_other, reads_own, reads, if_session, if_record, hears, shelved_at, first_shelved, finds, searches, due}
use Rattle.history.specs.History.{History, view_at}
use Rattle.history.specs.Layout.{view}
use Rattle.history.specs.Ledger.{Ledger}
use Rattle.history.specs.Looks.{Looks, no_looks, looked_to, looks_of, due_looks}
use Rattle.history.proofs.Calls.{Held}
use Rattle.history.proofs.Copies.{Lowest, first_of?}
use Rattle.history.proofs.Invariant.{Active}
use Rattle.claims.specs.Rules.{store_rules}
use Rattle.claims.specs.Run.{World, reply, run}
use Rattle.claims.specs.Demands.{SameLooks, ReadRight, FindRight, CallRight}
use Rattle.claims.proofs.Along.{Along, same, same-looks, run_along}
use Rattle.claims.proofs.SimulateListening.{other_word}
use Rattle.claims.proofs.Views.{run-stays, run-append}

module _ (h : History) (start r : ℕ) where
  -- what is neither a copy nor a home read
  neither : (t : Told) → is Copy t ≡ false → is Home t ≡ false → ReadRight h start r t
  neither t c e = record { copy = λ y. absurd (false≢true (sym c ∙ y)); home = λ y. absurd (false≢true (sym e ∙ y)) }

  -- one that gives the view
  right-other : (b : Bool) (ws : List ℕ) → ws ≡ view_at h start r → ReadRight h start r (reads_other b ws).answer
  right-other true ws e = record { copy = λ y. e; home = λ y. absurd (false≢true y) }
  right-other false ws e = record { copy = λ y. absurd (false≢true y); home = λ y. ap four_words e }

-- what is due is right by the ledger's history, and by any history with the same views up to the clock
module _ (N M : ℕ) (img : List ℕ) (L : Ledger) (a : Held N M img L) (h : History)
    (stays : (σ r : ℕ) → σ ≤ L.desk.clock → view_at h σ r ≡ view_at L.history σ r) (s : ℕ) where
  abbrev Right : ℕ → Told → Type 0
  Right r t = ReadRight h (L.history.start s) r t

  -- what is due of a record that is not the session's own
  abbrev other : ℕ → ℕ → Due
  other b r = reads_other (shown_by b L.desk (holder M L.desk r)) (view_at L.history b r)

  other-right : s < M → (b q : ℕ) (cs : List TxnCopy) → L.desk.session s ≡ active b q cs → (r : ℕ) → Right r (other b r).answer
  other-right l b q cs e r =
      right-other h _ r (shown_by b L.desk (holder M L.desk r)) (view_at L.history b r) (sym (ap (λ σ. view_at h σ r) act.noted ∙ stays b r act.begun))
    where
      act : Active N (view N img) L.history L.desk.clock s b q cs
      act = rw e at (a.holds.inv.fine s l)

  -- ---- reads

  module _ (r : ℕ) where
    read-at : s < M → (x : Session) → L.desk.session s ≡ x → Right r (reads M L.desk L.history r x).answer
    read-at l idle e = neither h _ r _ refl refl
    read-at l (active b q cs) e = own (find r cs)
      where
        own : (o : Option (List ℕ)) → Right r (reads_own o (other b r)).answer
        own none = other-right l b q cs e r
        own (some ws) = neither h _ r _ refl refl
    read-at l (sealed n q cs) e = neither h _ r _ refl refl
    read-at l (published f q cs) e = neither h _ r _ refl refl

    heard-at : s < M → (x : Session) → L.desk.session s ≡ x → Right r (hears M L.desk L.history r x).answer
    heard-at l idle e = neither h _ r _ refl refl
    heard-at l (active b q []) e = other-right l b q [] e r
    heard-at l (active b q (c ∷ cs)) e = neither h _ r _ refl refl
    heard-at l (sealed n q cs) e = neither h _ r _ refl refl
    heard-at l (published f q cs) e = neither h _ r _ refl refl

    -- behind the checks 4 and 5
    checked : (y : Due) → (s < M → Right r y.answer) → Right r (if_session M s (if_record N r y)).answer
    checked y right = over (leb M s) (nleb→lt M s) (leb N r)
      where
        over : (p : Bool) → (T (not p) → s < M) → (z : Bool) → Right r (cond p (refuse 4) (cond z (refuse 5) y)).answer
        over true f z = neither h _ r _ refl refl
        over false f true = neither h _ r _ refl refl
        over false f false = right (f tt)

    read-due : Right r (due N M L (read s r)).answer
    unfolding due
    read-due = checked _ (λ l. read-at l (L.desk.session s) refl)

    heard-due : Right r (due N M L (listen (Read s r))).answer
    unfolding due
    heard-due = checked _ (λ l. heard-at l (L.desk.session s) refl)

  -- ---- searches

  module _ (k : ℕ) where
    abbrev Finds : Told → Looks → Type 0
    Finds t x = FindRight h (L.history.start s) N k t x

    -- a search that is refused looks at nothing
    unanswered : (t : Told) → is Found t ≡ false → is None t ≡ false → Finds t no_looks
    unanswered t f n =
        record {
          each = λ r l. absurd (omega arith);
          source = λ r l. absurd (omega arith);
          first = λ r l w. absurd (omega arith);
          found = λ y. absurd (false≢true (sym f ∙ y));
          none = λ y. absurd (false≢true (sym n ∙ y));
        }

    -- copy or home
    sourced : (x : Bool) (ws : List ℕ) → (is Copy (reads_other x ws).answer || is Home (reads_other x ws).answer) ≡ true
    sourced true ws = refl
    sourced false ws = refl

    module _ (l : s < M) (b q : ℕ) (cs : List TxnCopy) (e : L.desk.session s ≡ active b q cs) where
      -- a record whose word 0 is the number
      matches : (r : ℕ) → get_or (words_told (other b r).answer) 0 0 ≡ k → T (not (shelved_at L.history b k r)) → ⊥
      matches r w n = rw (eq-eqb (get_or (view_at L.history b r) 0 0) k (sym (other_word (shown_by b L.desk (holder M L.desk r)) (view_at L.history b r)) ∙ w)) at n

      abbrev looked : Option ℕ → Looks
      looked o = record { number = looked_to N o; gives = λ r. (other b r).answer }

      searched : (o : Option ℕ) → Lowest (shelved_at L.history b k) N o → Finds (finds o).answer (cond (is_refusal (finds o).answer) no_looks (looked o))
      searched none g =
          record {
            each = λ r lr. other-right l b q cs e r;
            source = λ r lr. sourced (shown_by b L.desk (holder M L.desk r)) (view_at L.history b r);
            first = λ r lr w. absurd (matches r w (g r lr));
            found = λ y. absurd (false≢true y);
            none = λ y. refl;
          }
      searched (some t) g =
          record {
            each = λ r lr. other-right l b q cs e r;
            source = λ r lr. sourced (shown_by b L.desk (holder M L.desk r)) (view_at L.history b r);
            first = λ r lr w. end r lr w (ℕ_discrete r t);
            found = λ y. (refl, other_word (shown_by b L.desk (holder M L.desk t)) (view_at L.history b t) ∙ eqb→eq _ k g.passes);
            none = λ y. absurd (false≢true y);
          }
        where
          end : (r : ℕ) → r < suc t → get_or (words_told (other b r).answer) 0 0 ≡ k → Dec (r ≡ t) → found_at t ≡ found_at r
          end r lr w (yes z) = ap found_at (sym z)
          end r lr w (no n) = absurd (matches r w (g.first r (omega arith)))

    find-due : Finds (due N M L (listen (Find s k))).answer (due_looks N M L (listen (Find s k)))
    unfolding due due_looks
    find-due = go (leb 1 k && leb k 999999) (leb M s) (nleb→lt M s) (L.desk.session s) refl
      where
        go : (shelved over : Bool) → (T (not over) → s < M) → (x : Session) → L.desk.session s ≡ x
            → let y = cond shelved (cond over (refuse 4) (searches N L.history k x)) (refuse 15) in
            Finds y.answer (cond (is_refusal y.answer) no_looks (looks_of N M L.desk L.history k x))
        go false over f x e = unanswered _ refl refl
        go true true f x e = unanswered _ refl refl
        go true false f idle e = unanswered _ refl refl
        go true false f (active b q []) e = searched (f tt) b q [] e (first_shelved N L.history b k) (first_of? (shelved_at L.history b k) N)
        go true false f (active b q (c ∷ cs)) e = unanswered _ refl refl
        go true false f (sealed n q cs) e = unanswered _ refl refl
        go true false f (published n q cs) e = unanswered _ refl refl

-- a search that looks at the same records
same-right : {h : History} {start N k : ℕ} {t : Told} {x y : Looks} → SameLooks x y → FindRight h start N k t y → FindRight h start N k t x
same-right {h} {start} {N} {k} {t} {x} {y} same g =
    record {
      each = λ r l. rw (same.gives r (there r l)) (g.each r (there r l));
      source = λ r l. rw (same.gives r (there r l)) (g.source r (there r l));
      first = λ r l w. g.first r (there r l) (rw (same.gives r (there r l)) at w);
      found = λ z.
          let p = g.found z in
          (same.number ∙ p.0, ap (λ (u : Told). get_or (words_told u) 0 0) (same.gives (value_of t) (omega (arith, p.0))) ∙ p.1);
      none = λ z. same.number ∙ g.none z;
    }
  where
    there : (r : ℕ) → r < x.number → r < y.number
    there r l = omega (arith, same.number)

-- ---- the store's calls

module _ (N M : ℕ) (w : World) (a : Along N M w) (h : History)
    (stays : (σ u : ℕ) → σ ≤ w.ledger.desk.clock → view_at h σ u ≡ view_at w.ledger.history σ u) where
  listening-right : (c : Listening) → CallRight h N w.ledger (listen c) (reply store_rules w (listen c))
  listening-right (Begin s) = tt
  listening-right (Read s r) =
      subst (ReadRight h (w.ledger.history.start s) r) (sym (same N M w a (listen (Read s r))).answers) (heard-due N M w.image w.ledger a.held h stays s r)
  listening-right (Finish len s) = tt
  listening-right (Find s k) =
      same-right (same-looks N M w a (listen (Find s k)))
      (subst (λ (t : Told). FindRight h (w.ledger.history.start s) N k t (due_looks N M w.ledger (listen (Find s k))))
      (sym (same N M w a (listen (Find s k))).answers) (find-due N M w.image w.ledger a.held h stays s k))

  call-right : (c : Call) → CallRight h N w.ledger c (reply store_rules w c)
  call-right (begin s) = tt
  call-right (read s r) =
      subst (ReadRight h (w.ledger.history.start s) r) (sym (same N M w a (read s r)).answers) (read-due N M w.image w.ledger a.held h stays s r)
  call-right (write s r ws) = tt
  call-right (abandon s) = tt
  call-right (finish len s) = tt
  call-right (publish len s) = tt
  call-right (group len set) = tt
  call-right (settle len s) = tt
  call-right (reclaim len s) = tt
  call-right (listen c) = listening-right c

-- what a call before a cut gave is right by the history at the cut
pub read_right : (N M : ℕ) (w : World) → Along N M w → (earlier later : List Call) (c : Call) (h : History)
    → ((σ u : ℕ) → view_at h σ u ≡ view_at (run store_rules (earlier ++ (c ∷ later)) w).ledger.history σ u)
    → CallRight h N (run store_rules earlier w).ledger c (reply store_rules (run store_rules earlier w) c)
read_right N M w a earlier later c h same-cut = call-right N M (run store_rules earlier w) there h stays c
  where
    there : Along N M (run store_rules earlier w)
    there = run_along N M earlier w a

    stays : (σ u : ℕ) → σ ≤ (run store_rules earlier w).ledger.desk.clock → view_at h σ u ≡ view_at (run store_rules earlier w).ledger.history σ u
    stays σ u l =
        same-cut σ u
        ∙ ap (λ (x : World). view_at x.ledger.history σ u) (run-append earlier (c ∷ later) w)
        ∙ (run-stays N M (c ∷ later) (run store_rules earlier w) there).views σ u l
