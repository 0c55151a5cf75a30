-- No number comes back: each is above the ceiling that its opening found, and at most the ceiling that the next opening finds.
use Prim.Native.Nat.{ℕ, ◌≤◌, ◌<◌}
use mathlib.Core.Path.{◌≡◌, refl, ap}
use mathlib.Core.Bool.{Bool, true, false, cond, ◌||◌, false≢true}
use mathlib.Core.Option.{Option, none, some}
use mathlib.Core.List.{List, [], ◌∷◌}
use native.Mathlib.Omega.{arith}
use Rattle.layout.specs.Image.{records_of, sessions_of, ceiling_of}
use Rattle.layout.specs.Told.{Told, ok, is, value_of, Start, End}
use Rattle.history.specs.Call.{Call}
use Rattle.history.specs.Ledger.{note_desk, note}
use Rattle.history.proofs.Numbers.{Timed, due-timed}
use Rattle.claims.specs.Rules.{store_rules}
use Rattle.claims.specs.Run.{World, opened, reply, step, run}
use Rattle.claims.specs.Demands.{Cut, opening, during, before, cut_image}
use Rattle.claims.specs.Lives.{Life, AllCome, after_life, after_lives}
use Rattle.claims.specs.Fresh.{number_given, Gives, Fresh}
use Rattle.claims.proofs.Along.{Along, same, step-along, run_along, opened-along}
use Rattle.claims.proofs.CutRecovers.{cut-ceiling}
use Rattle.claims.proofs.Demands.{not-empty, behind, demand3}
use Rattle.claims.proofs.Lives.{one-life}
use Rattle.claims.proofs.Opening.{opens-entries, opens-cut-ceiling}
use Rattle.claims.proofs.Views.{run-stays, run-append}

-- the number of an answer
given : (t : Told) (n : ℕ) → number_given t ≡ some n → ((is Start t || is End t) ≡ true) × (value_of t ≡ n)
given t n e = go (is Start t || is End t) e
  where
    number : Option ℕ → ℕ
    number none = 0
    number (some k) = k

    there : Option ℕ → Bool
    there none = false
    there (some k) = true

    go : (b : Bool) → cond b (some (value_of t)) none ≡ some n → (b ≡ true) × (value_of t ≡ n)
    go true q = (refl, ap number q)
    go false q = absurd (false≢true (ap there q))

-- one call: from the clock before it up to the clock behind it
step-number : (N M : ℕ) (w : World) → Along N M w → (c : Call) (n : ℕ) → number_given (reply store_rules w c).told ≡ some n
    → (w.ledger.desk.clock ≤ n) × (n ≤ (step store_rules w c).ledger.desk.clock)
unfolding step note
step-number N M w a c n e =
    let g = given (reply store_rules w c).told n e in
    let b = timed g.0 in
    (omega (arith, b.0, g.1), omega (arith, b.1, g.1))
  where
    timed : Timed (reply store_rules w c).told w.ledger.desk.clock (note_desk c (reply store_rules w c).told w.ledger.number w.ledger.desk).clock
    timed = rw (same N M w a c).answers (due-timed N M w.ledger c)

-- ---- one opening

module _ (img : List ℕ) (len : ℕ) (o : (store_rules.opens img len).told ≡ ok) where
  start : Along (records_of img) (sessions_of img) (opened store_rules img len)
  start = opened-along img len o

  module _ (calls : List Call) (n : ℕ) (g : Gives store_rules img len calls n) where
    here : World
    here = run store_rules g.earlier (opened store_rules img len)

    along : Along (records_of img) (sessions_of img) (run store_rules g.earlier (opened store_rules img len))
    along = run_along _ _ g.earlier _ start

    -- a number is above the ceiling that the opening found
    given_above : ceiling_of img < n
    given_above = omega (arith, (run-stays _ _ g.earlier _ start).clock, (step-number _ _ _ along g.call n g.told).0)

    -- and at most the clock in the end
    given-under : n ≤ (run store_rules calls (opened store_rules img len)).ledger.desk.clock
    unfolding run
    given-under =
        rw (g.along, run-append g.earlier (g.call ∷ g.later) (opened store_rules img len))
        (omega (arith, (step-number _ _ _ along g.call n g.told).1, (run-stays _ _ g.later _ (step-along _ _ _ along g.call)).clock))

  -- so it is at most the ceiling that a cut leaves
  cut-under : (cut : Cut) (n : ℕ) → Gives store_rules img len (before cut) n → n ≤ ceiling_of (cut_image store_rules img len cut)
  cut-under (opening k sel) n g = absurd (not-empty g.earlier g.call g.later g.along)
  cut-under (during calls c k sel) n g =
      let a = run_along _ _ calls _ start in
      let b = behind img len o calls c k sel in
      rw b.1 (omega (arith, given-under calls n g, a.held.holds.under, cut-ceiling _ _ _ a c k b.0))

  -- which is no lower than the one that the opening found
  cut-over : (cut : Cut) → ceiling_of img ≤ ceiling_of (cut_image store_rules img len cut)
  cut-over (opening k sel) = rw (opens-entries img len o) (opens-cut-ceiling img len o k sel)
  cut-over (during calls c k sel) =
      let a = run_along _ _ calls _ start in
      let b = behind img len o calls c k sel in
      rw b.1 (omega (arith, (run-stays _ _ calls _ start).clock, a.held.holds.under, cut-ceiling _ _ _ a c k b.0))

-- ---- lives

lives-over : (lives : List Life) (img : List ℕ) → AllCome store_rules lives img → ceiling_of img ≤ ceiling_of (after_lives store_rules lives img)
unfolding AllCome after_lives
lives-over [] img e = omega arith
lives-over (life ∷ rest) img e =
    omega (
      arith,
      cut-over img life.trace e.0.opens life.cut,
      (one-life store_rules demand3 img life e.0).ceiling,
      lives-over rest (after_life store_rules img life) e.1,
    )

pub fresh : Fresh store_rules
unfolding AllCome after_lives
fresh img life between e len o calls n g k =
    omega (
      arith,
      cut-under img life.trace e.0.opens life.cut n g,
      (one-life store_rules demand3 img life e.0).ceiling,
      lives-over between (after_life store_rules img life) e.1,
      given_above (after_lives store_rules between (after_life store_rules img life)) len o calls n k,
    )
