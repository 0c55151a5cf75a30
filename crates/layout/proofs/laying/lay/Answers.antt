use Prim.Native.Nat.{ℕ, suc, ◌+◌, ◌*◌, ◌≤◌}
use mathlib.Core.Path.{◌≡◌, sym, ap, ◌∙◌}
use native.Mathlib.Omega.{arith}
use lib.ListN.{length, replicate, set, length-set, length-replicate}
use Rattle.std.proofs.lemmas.Result.{err_from_is_err_and}
use Rattle.layout.specs.Image.{size_of}
use Rattle.layout.specs.Lay.{lay_fault, lay_answer, laid_image, empty_image}
use Rattle.layout.proofs.AnswerLaws.{refused-by, given-by}
use Rattle.layout.proofs.ChecksLaws.{answered-zero, answered-not}
use Rattle.layout.proofs.Shape.{lay-size}
use Rattle.layout.proofs.ToldLaws.{lay-told}
use Rattle.layout.specs.Told.{lay_told}
use Rattle.layout.proofs.laying.lay.Goals as goal

-- a cleared image with the header stored
header : (n m : ℕ) → set (set (set (replicate (size_of n m) 0) 0 1) 1 n) 2 m ≡ empty_image n m
header n m = let e : size_of n m ≡ suc (suc (suc (1 + 4 * n + 44 * m))) = omega arith in rw e

pub returns-in_err-check_sizes : goal.returns-in_err-check_sizes
unfolding lay_answer laid_image
returns-in_err-check_sizes c =
    let p = err_from_is_err_and c.from_residual.result c.from_residual.ensures.1 in
    let e : c.from_residual.result ≡ lay_answer c.args.n c.args.m c.args.image.now = rw (p.1, p.2) c.in_err-check_sizes.ensures in
    record {
      answer = e;
      image = sym (answered-not _ _ _ (refused-by _ tt c.in_err-check_sizes.ensures).0);
      told = rw e (lay-told _ _ _);
    }

module _ (c : goal.After-slice_known-2-1) where
  unrefused : lay_fault c.args.n c.args.m (length c.args.image.now) ≡ 0
  unrefused = (given-by _ tt c.in_ok-check_sizes.ensures).0

  -- past the checks the cleared image has the exact length
  cleared : c.fill.new.self ≡ replicate (size_of c.args.n c.args.m) 0
  cleared = c.fill.ensures.after (λ y e. e) ∙ ap (λ (k : ℕ). replicate k 0) (lay-size _ _ _ unrefused)

  long : 3 ≤ length c.fill.new.self
  long = rw (cleared, length-replicate) (omega arith)

pub bounds-image-0 : goal.bounds-image-0
bounds-image-0 c = omega (arith, long c)

pub bounds-image-1 : goal.bounds-image-1
bounds-image-1 c = simp length-set (omega (arith, long c))

pub bounds-image-2 : goal.bounds-image-2
bounds-image-2 c = simp length-set (omega (arith, long c))

pub returns : goal.returns
unfolding lay_answer laid_image
returns c =
    let z = unrefused c in
    record {
      answer = c.in_ok-check_sizes.ensures;
      image = rw (cleared c) (header _ _) ∙ sym (answered-zero _ _ _ z);
      told = ap lay_told c.in_ok-check_sizes.ensures ∙ lay-told c.args.n c.args.m c.args.image.now;
    }
