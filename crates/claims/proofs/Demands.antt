-- The store's rules meet demands 2 and 3.
use Prim.Native.Nat.{ℕ}
use mathlib.Core.Path.{◌≡◌, refl, sym, ap, ◌∙◌, subst}
use mathlib.Core.Bool.{Bool}
use mathlib.Core.List.{List, [], ◌∷◌, ◌++◌}
use native.Mathlib.Omega.{arith}
use Rattle.layout.specs.Crash.{crashed as crash}
use Rattle.layout.specs.Image.{records_of, sessions_of}
use Rattle.layout.specs.Told.{ok}
use Rattle.history.specs.Call.{Call}
use Rattle.history.specs.Cut.{feed_cut}
use Rattle.history.specs.History.{view_at}
use Rattle.history.proofs.Cuts.{crash-behind}
use Rattle.claims.specs.Rules.{store_rules}
use Rattle.claims.specs.Run.{World, opened, reply, run, since_opening}
use Rattle.claims.specs.Demands.{Demand2, StoresDue, OpeningStores, LooksDue, Cut, opening, during, before, cut_image, cut_history, CallRight, Demand3}
use Rattle.claims.proofs.Along.{Along, same, same-looks, opened-along, run_along, opening-fenced, opening-made}
use Rattle.claims.proofs.CallsRight.{read_right}
use Rattle.claims.proofs.CutRecovers.{Left, cut_left, tried-ends, tried-clean}
use Rattle.claims.proofs.Opening.{opens-entries, opens-cut-whole, opens-crashed}
use Rattle.claims.proofs.Views.{cut-view}

-- ---- demand 2

pub demand2 : Demand2 store_rules
demand2 img len o calls c = (same _ _ _ (run_along _ _ calls _ (opened-along img len o)) c).answers

pub stores-due : StoresDue store_rules
stores-due img len o calls c = (same _ _ _ (run_along _ _ calls _ (opened-along img len o)) c).stored

pub opening-stores : OpeningStores store_rules
opening-stores img len o = opens-entries img len o

pub looks-due : LooksDue store_rules
looks-due img len o calls c = same-looks _ _ _ (run_along _ _ calls _ (opened-along img len o)) c

-- ---- demand 3

-- no call stands in an empty list
pub not-empty : (xs : List Call) (c : Call) (ys : List Call) → [] ≡ xs ++ (c ∷ ys) → ⊥
not-empty [] c ys q = let z : ◌≡◌ {A = ℕ} 0 1 = cc in omega arith
not-empty (x ∷ xs) c ys q = let z : ◌≡◌ {A = ℕ} 0 1 = cc in omega arith

module _ (img : List ℕ) (len : ℕ) (o : (store_rules.opens img len).told ≡ ok) where
  start : Along (records_of img) (sessions_of img) (opened store_rules img len)
  start = opened-along img len o

  -- where the cut is in a call, it is a cut of that call's entries alone
  pub behind : (calls : List Call) (c : Call) (k : ℕ) (sel : ℕ → Bool) → let w = run store_rules calls (opened store_rules img len) in
      (sel' : ℕ → Bool) × (cut_image store_rules img len (during calls c k sel) ≡ crash k sel' (reply store_rules w c).entries w.image)
  behind calls c k sel =
      let es = (reply store_rules (run store_rules calls (opened store_rules img len)) c).entries in
      let b = crash-behind k sel (since_opening store_rules img len calls) es img (opening-fenced img len calls) in
      (b.0, b.1 ∙ ap (λ i. crash k b.0 es i) (opening-made img len calls))

  -- what the cut leaves
  left : (cut : Cut) → Left (records_of img) (sessions_of img) (cut_image store_rules img len cut) (cut_history store_rules img len cut)
  left (opening k sel) = rw (opens-entries img len o) (record { whole = opens-cut-whole img len o k sel; left = opens-crashed img len o k sel })
  left (during calls c k sel) =
      subst
      (λ (i : List ℕ). Left (records_of img) (sessions_of img) i (feed_cut (records_of img) w.ledger.desk c (reply store_rules w c).told i w.ledger.history))
      (sym (behind calls c k sel).1) (cut_left _ _ w (run_along _ _ calls _ start) c k (behind calls c k sel).0)
    where
      w : World
      w = run store_rules calls (opened store_rules img len)

  -- reads along the list
  reads-right : (cut : Cut) (earlier later : List Call) (c : Call) → before cut ≡ earlier ++ (c ∷ later)
      → CallRight (cut_history store_rules img len cut) (records_of img) (run store_rules earlier (opened store_rules img len)).ledger c
      (reply store_rules (run store_rules earlier (opened store_rules img len)) c)
  reads-right (opening k sel) earlier later c e = absurd (not-empty earlier c later e)
  reads-right (during calls x k sel) earlier later c e =
      read_right _ _ (opened store_rules img len) start earlier later c _
      (λ σ u.
      cut-view (records_of img) (run store_rules calls (opened store_rules img len)).ledger.desk x
      (reply store_rules (run store_rules calls (opened store_rules img len)) x).told
      (cut_image store_rules img len (during calls x k sel))
      (run store_rules calls (opened store_rules img len)).ledger.history σ u
      ∙ ap (λ (x : List Call). view_at (run store_rules x (opened store_rules img len)).ledger.history σ u) e)

pub demand3 : Demand3 store_rules
demand3 img len o cut attempts =
    record {
      ends = tried-ends _ _ img (cut_image store_rules img len cut) (cut_history store_rules img len cut) refl refl (left img len o cut) attempts;
      clean-right = tried-clean _ _ img (cut_image store_rules img len cut) (cut_history store_rules img len cut) refl refl (left img len o cut) attempts;
      reads = reads-right img len o cut;
    }
