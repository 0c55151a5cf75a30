-- The list of a raise is tidy.
use Prim.Native.Nat.{ℕ}
use mathlib.Core.Path.{refl}
use mathlib.Core.List.{List, []}
use native.Mathlib.Omega.{arith}
use lib.Dec.{leb}
use lib.ListN.{length}
use Rattle.layout.specs.Ceiling.{raise_entries, pass_entries}
use Rattle.layout.specs.Image.{ceiling_of}
use Rattle.layout.specs.Tidy.{Tidy}
use Rattle.layout.proofs.TidyLaws.{tidy-none, tidy-cond, tidy-list}

pub raise-tidy : (clock : ℕ) → Tidy 0 (length (raise_entries clock)) (raise_entries clock)
raise-tidy clock = tidy-list _ (raise_entries clock) refl (omega arith) refl refl

pub pass-tidy : (img : List ℕ) (clock : ℕ) → Tidy 0 (length (pass_entries img clock)) (pass_entries img clock)
pass-tidy img clock =
    tidy-cond length (leb clock (ceiling_of img)) [] (raise_entries clock) [] (raise_entries clock) (λ e. tidy-none 0 refl) (λ e. raise-tidy clock)
