-- What opens, and what lay leaves (document 01, "The image", "Lay", "Open"; document 02, Req 05), in plain numbers.
use Rattle.std.specs.Prelude.{ℕ, ◌+◌, ◌*◌, ◌≤◌, ◌<◌, true, ◌≡◌, List, ◌∷◌, length, replicate}
use Rattle.layout.specs.Image.{word}
use Rattle.layout.specs.Lay.{lay_answer, laid_image}
use Rattle.layout.specs.Told.{ok, is_refusal, lay_told}
use Rattle.desk.specs.Desk.{session_at, mark_at, order_at}
use Rattle.desk.specs.declared.state.Desk.{Desk}
use Rattle.desk.specs.declared.state.Phase.TheVariants.{Idle}
use Rattle.claims.specs.Rules.{Opening, store_rules}
use Rattle.claims.specs.Recovering.{AllEmpty}

-- word 0 is 1, N is 1 to 256, M is 1 to 16, and the length is exact
pub record Fits (img : List ℕ) : Type 0 where
  pub mark : word img 0 ≡ 1
  pub n-low : 1 ≤ word img 1
  pub n-high : word img 1 ≤ 256
  pub m-low : 1 ≤ word img 2
  pub m-high : word img 2 ≤ 16
  pub size : length img ≡ 4 + 4 * word img 1 + 44 * word img 2

-- an opening that is accepted: the clock is one above word 3, all are idle, nothing is marked, and nobody is listed
pub record Opened (img : List ℕ) (o : Opening) : Type 0 where
  pub told : o.told ≡ ok
  pub clock : o.desk.clock ≡ word img 3 + 1
  pub n : o.desk.n ≡ word img 1
  pub m : o.desk.m ≡ word img 2
  pub idle : (s : ℕ) → s < 16 → ((session_at o.desk s).phase ≡ Idle) × ((session_at o.desk s).count ≡ 0)
  pub unmarked : (r : ℕ) → r < 256 → mark_at o.desk r ≡ 0
  pub unlisted : (j : ℕ) → j < 16 → order_at o.desk j ≡ 0

-- the desk of a refused opening: clock, N and M are 0
pub record Unopened (d : Desk) : Type 0 where
  pub clock : d.clock ≡ 0
  pub n : d.n ≡ 0
  pub m : d.m ≡ 0
  pub idle : (s : ℕ) → s < 16 → ((session_at d s).phase ≡ Idle) × ((session_at d s).count ≡ 0)
  pub unmarked : (r : ℕ) → r < 256 → mark_at d r ≡ 0
  pub unlisted : (j : ℕ) → j < 16 → order_at d j ≡ 0

-- the header, 0 in word 3, zero records and zero slots
abbrev pub blank : ℕ → ℕ → List ℕ
blank n m = 1 ∷ n ∷ m ∷ 0 ∷ replicate (4 * n + 44 * m) 0

pub record Opens : Type 0 where
  -- an image that fits opens where all slots are empty and word 3 is below L, whatever else it holds
  pub opens : (img : List ℕ) (len : ℕ) → Fits img → AllEmpty img → word img 3 < 4611686018427387904 → 48 ≤ len
      → Opened img (store_rules.opens img len)
  -- and nothing else opens
  pub only : (img : List ℕ) (len : ℕ) → (store_rules.opens img len).told ≡ ok
      → Fits img × AllEmpty img × (word img 3 < 4611686018427387904) × (48 ≤ len)
  pub refused : (img : List ℕ) (len : ℕ) → is_refusal (store_rules.opens img len).told ≡ true → Unopened (store_rules.opens img len).desk
  -- every size can be laid, and what was laid opens
  pub lays : (n m : ℕ) (img : List ℕ) → 1 ≤ n → n ≤ 256 → 1 ≤ m → m ≤ 16 → length img ≡ 4 + 4 * n + 44 * m
      → (lay_told (lay_answer n m img) ≡ ok) × (laid_image n m img ≡ blank n m)
  pub laid_opens : (n m len : ℕ) → 1 ≤ n → n ≤ 256 → 1 ≤ m → m ≤ 16 → 48 ≤ len
      → Opened (blank n m) (store_rules.opens (blank n m) len)
