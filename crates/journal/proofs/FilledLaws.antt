-- What `from_fn` puts into an array.
use Rattle.std.proofs.Common.{◌≡◌, ℕ, zero, suc, ◌+◌, ◌<◌, List, get_or, subst, ◌∙◌, arith}
use Rattle.std.specs.Array.{IsFromFnResultFrom, IsFromFnResult}
use Rattle.std.specs.Fn.{Called}
use denote.Param.Members.{Mut}

-- its closure computes p
pub filled_by : {F B : Type 0} {g : Mut F (ℕ × Unit {0}) B} (p : ℕ → B) {f : F} {ys : List B} {n : ℕ} → IsFromFnResult g f ys n
    → ((x : ℕ) (b : B) (q : F) → Called g f (x, tt) b q → (q ≡ f) × (b ≡ p x)) → (j : ℕ) (d : B) → j < n → get_or ys j d ≡ p j
filled_by {F} {B} {g} p {f} {ys} {n} made h j d l = let e : 0 + j ≡ j = omega arith in rw e at (from 0 n made.each j l)
  where
    from : (i n : ℕ) → IsFromFnResultFrom g f ys i n → (j : ℕ) → j < n → get_or ys (i + j) d ≡ p (i + j)
    from i zero r j l = absurd (omega arith)
    from i (suc n) r zero l =
        let e : i + 0 ≡ i = omega arith in
        rw e (r.2.1 d ∙ (h i r.1 r.0 r.3).1)
    from i (suc n) r (suc j) l =
        let e : i + suc j ≡ i + 1 + j = omega arith in
        rw e (from (i + 1) n (subst (λ q. IsFromFnResultFrom g q ys (i + 1) n) (h i r.1 r.0 r.3).0 r.4) j (omega arith))
