-- Wherever power fails, recovery ends clean with the history's records.
use Prim.Native.Nat.{ℕ, ◌*◌, ◌<◌, ◌+◌, ◌≤◌}
use mathlib.Core.Path.{◌≡◌, refl, sym, ap, ◌∙◌, subst}
use mathlib.Core.Bool.{Bool, false}
use mathlib.Core.List.{List, [], ◌∷◌, ◌++◌}
use native.Mathlib.Omega.{arith}
use native.Mathlib.Nat.{le_refl, add-zero}
use lib.ListN.{get_or}
use lib.Dec.{ltb}
use borrow.Author.Tests.{le-leb}
use Rattle.layout.specs.Below.{any_below}
use Rattle.layout.specs.Checks.{first, answered}
use Rattle.layout.specs.Crash.{crashed as crash}
use Rattle.layout.specs.Entries.{made}
use Rattle.layout.specs.Image.{records_of, sessions_of, home_words, slot_at, persist_at, occupied_at, occupied_b, ceiling_of}
use Rattle.layout.specs.Refusal.{cause}
use Rattle.layout.specs.Told.{clean}
use Rattle.layout.proofs.Says.{by-test, says_ne, says_any, says-not}
use Rattle.desk.specs.Coherent.{limit}
use Rattle.recovery.specs.Open.{open_fault, open_reply}
use Rattle.history.specs.Call.{Call}
use Rattle.history.specs.Cut.{feed_cut}
use Rattle.history.specs.Desk.{spot}
use Rattle.history.specs.Due.{four_words}
use Rattle.history.specs.History.{History, record_of}
use Rattle.history.specs.Layout.{Home, view}
use Rattle.history.specs.Log.{Final, Clean}
use Rattle.history.proofs.Abstract.{final-clean}
use Rattle.history.proofs.Calls.{due-done}
use Rattle.history.proofs.Kept.{Crashed}
use Rattle.history.proofs.ReadDue.{four-words}
use Rattle.claims.specs.Rules.{store_rules}
use Rattle.claims.specs.Run.{World, reply}
use Rattle.claims.specs.Recovery.{Attempt, after_calls, after_stop, after_attempts, Ends}
use Rattle.claims.specs.Demands.{opening_due, Recovered}
use Rattle.claims.proofs.Along.{Along, same}
use Rattle.claims.proofs.Recovering.{Whole, whole_again, logs_in, Follows, clean-told, calls-follow, stop-made, calls-more, attempts-follow, ends}
use Rattle.claims.proofs.ReadyKept.{whole_of}

-- what a cut leaves
pub record Left (N M : ℕ) (img : List ℕ) (h : History) : Type 0 where
  pub whole : Whole N M img
  pub left : Crashed N M img h

-- a cut in a call
module _ (N M : ℕ) (w : World) (a : Along N M w) (c : Call) (k : ℕ) (sel : ℕ → Bool) where
  abbrev cut-image : List ℕ
  cut-image = crash k sel (reply store_rules w c).entries w.image

  pub cut_left : Left N M cut-image (feed_cut N w.ledger.desk c (reply store_rules w c).told cut-image w.ledger.history)
  cut_left = record { whole = whole_again N M w.image _ (whole_of N M w.image w.desk a.ready) low there.good.whole; left = there }
    where
      there : Crashed N M cut-image (feed_cut N w.ledger.desk c (reply store_rules w c).told cut-image w.ledger.history)
      there = rw ((same N M w a c).stored, (same N M w a c).answers) ((due-done N M w.image w.ledger a.held c).broken k sel)

      low : (j : ℕ) → j < 3 → get_or cut-image j 0 ≡ get_or w.image j 0
      low j l = rw (same N M w a c).stored ((due-done N M w.image w.ledger a.held c).low-cut k sel j l)

  -- its ceiling is no lower
  pub cut-ceiling : ceiling_of w.image ≤ ceiling_of cut-image
  cut-ceiling = rw (same N M w a c).stored ((due-done N M w.image w.ledger a.held c).top-cut k sel)

-- ---- an image with empty slots

module _ (N M : ℕ) (img : List ℕ) (w : Whole N M img) (c : Clean (2 * M) (view N img)) where
  -- opens, with room in the trace, or is refused with 10 by its ceiling
  pub clean-opens : (x : ℕ) → (store_rules.opens img (48 + x)).told ≡ opening_due (ceiling_of img)
  unfolding open_reply open_fault answered first occupied_b cause
  clean-opens x = rw (w.shaped, le-leb 48 (48 + x) (omega arith), none) (by-test (ltb (ceiling_of img) limit) (λ e. rw e refl) (λ e. rw e refl))
    where
      none : any_below (2 * sessions_of img) (occupied_at img (records_of img)) ≡ false
      none =
          says-not (says_any (2 * sessions_of img) (λ p. says_ne (persist_at img (records_of img) p) 0))
          (rw (w.records, w.sessions) (λ t. t.2 (rw (add-zero (slot_at N t.0)) (c t.0 t.1))))

  -- and has the history's words at home
  clean-records : (h : History) → ((r j : ℕ) → r < N → j < 4 → Final (2 * M) (view N img) (spot r j) (get_or (record_of h r) j 0))
      → (r : ℕ) → r < N → home_words img r ≡ four_words (record_of h r)
  clean-records h f r l = four-words img r (record_of h r) (λ j lj. final-clean (2 * M) (view N img) c (spot r j) _ (f r j l lj))

-- ---- recovery

module _ (N M : ℕ) (first left : List ℕ) (h : History) (n-same : records_of first ≡ N) (m-same : sessions_of first ≡ M) where
  -- an image that recover calls clean, with these final words, is recovered
  recovered : (img : List ℕ) → Whole N M img → ceiling_of img ≡ ceiling_of left → Clean (2 * M) (view N img)
      → ((r j : ℕ) → r < N → j < 4 → Final (2 * M) (view N img) (spot r j) (get_or (record_of h r) j 0)) → Recovered store_rules first left h img
  recovered img w e c f =
      record {
        ceiling = e;
        opens = clean-opens N M img w c;
        n-same = w.records ∙ sym n-same;
        m-same = w.sessions ∙ sym m-same;
        records = λ r l. clean-records N M img w c h f r (rw n-same at l);
      }

  module _ (l : Left N M left h) (attempts : List Attempt) where
    abbrev tried : List ℕ
    tried = after_attempts store_rules attempts left

    after : Follows N M left tried
    after = attempts-follow N M attempts left l.whole l.left.good

    -- the caller repeats until clean
    pub tried-ends : (x : ℕ → ℕ) → Ends store_rules x tried
    tried-ends x = ends (logs_in N M tried) N M x tried after.whole after.carries.good (le_refl _)

    -- whenever recover answers "clean" the image is recovered
    pub tried-clean : (whole : List ℕ) (last : ℕ) (sel : ℕ → Bool) → (store_rules.recover (after_calls store_rules whole tried) last).told ≡ clean
        → Recovered store_rules first left h (after_stop store_rules (whole ++ (last ∷ [])) sel tried)
    tried-clean whole last sel e =
        let a = calls-follow N M whole tried after.whole after.carries.good in
        let b = clean-told N M (after_calls store_rules whole tried) last a.whole a.carries.good e in
        subst (Recovered store_rules first left h)
        (sym (stop-made (whole ++ (last ∷ [])) sel tried ∙ calls-more whole last tried ∙ ap (λ es. made es (after_calls store_rules whole tried)) b.1))
        (recovered (after_calls store_rules whole tried) a.whole (a.ceiling ∙ after.ceiling) b.0
        (λ r j lr lj.
        a.carries.final (spot r j) _ (home r j lr lj) (after.carries.final (spot r j) _ (home r j lr lj) (l.left.final r j lr lj))))
      where
        home : (r j : ℕ) → r < N → j < 4 → Home N (spot r j)
        home r j lr lj = (omega arith, omega arith)
