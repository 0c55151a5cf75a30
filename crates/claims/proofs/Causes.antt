-- What a refusal by a number of the table tells, and that the table's rows give no other number.
use Prim.Native.Nat.{ℕ, suc, ◌≤◌, ◌<◌}
use mathlib.Core.Bool.{Bool, true, false, cond}
use mathlib.Core.Path.{◌≡◌, refl}
use mathlib.Core.List.{List, [], ◌∷◌}
use native.Mathlib.Omega.{arith}
use Rattle.layout.specs.Refusal.{cause, number_of, value_with}
use Rattle.layout.specs.Told.{refused, refusal}
use Rattle.layout.proofs.ToldLaws.{known}
use Rattle.claims.specs.Refusals.{Cause, wrong_image, wrong_length, incoherent, other_header, short_trace, no_session, no_record, wrong_phase}
use Rattle.claims.specs.Refusals.{other_holds, fifth_record, slots_full, clock_at_limit, ceiling_at_limit, slot_occupied, log_unsound, logs_tied, out_of_range, wrong_shelf, copies_held, no_members, member_above, member_unsealed}
use Rattle.claims.specs.Refusals.{Given, number, holds, first_refusal}

-- that number alone
pub tells-cause : (k : ℕ) → k < 20 → refused (number_of (cause (suc k))) (value_with (cause (suc k))) ≡ refusal (suc k)
tells-cause k l = let h = known k l in rw (h.number, h.value) refl

number-most : (c : Cause) → number c ≤ 20
number-most wrong_image = omega arith
number-most wrong_length = omega arith
number-most incoherent = omega arith
number-most other_header = omega arith
number-most short_trace = omega arith
number-most no_session = omega arith
number-most no_record = omega arith
number-most wrong_phase = omega arith
number-most other_holds = omega arith
number-most fifth_record = omega arith
number-most slots_full = omega arith
number-most clock_at_limit = omega arith
number-most ceiling_at_limit = omega arith
number-most slot_occupied = omega arith
number-most log_unsound = omega arith
number-most logs_tied = omega arith
number-most out_of_range = omega arith
number-most wrong_shelf = omega arith
number-most copies_held = omega arith
number-most no_members = omega arith
number-most member_above = omega arith
number-most member_unsealed = omega arith

pub row-most : (row : List Cause) (g : Given) → first_refusal row g ≤ 20
unfolding first_refusal
row-most [] g = omega arith
row-most (c ∷ row) g = go (holds c g) (row-most row g)
  where
    go : (b : Bool) → first_refusal row g ≤ 20 → cond b (number c) (first_refusal row g) ≤ 20
    go true l = number-most c
    go false l = l
