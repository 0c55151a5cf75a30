-- What a call leaves in image and trace: one that stores nothing, and one whose run of entries is known.
use Prim.Native.Nat.{ℕ, ◌*◌, ◌≤◌}
use mathlib.Core.Path.{◌≡◌, refl}
use mathlib.Core.List.{List, []}
use lib.ListN.{length}
use Rattle.layout.specs.Entries.{Entry, made, listed}
use Rattle.layout.specs.Trace.{Did}
use Rattle.layout.proofs.TraceLaws.{did-listed-whole}

pub stored-none : (es : List Entry) (img t : List ℕ) → es ≡ [] → (img ≡ made es img) × (t ≡ listed es t)
stored-none es img t e = rw e (refl, refl)

pub stored-run : {es : List Entry} {r : ℕ} {p t p' t' : List ℕ} (fs : List Entry)
    → fs ≡ es → Did es 0 0 p t p' t' r → 2 * length es ≤ length t → (p' ≡ made fs p) × (t' ≡ listed fs t)
stored-run fs e d l = rw e (d.stores, did-listed-whole d l)
