-- Document 02, Req 06: sessions that are published together. What a set says; what a group does on any image and desk, of which single publish
-- is the case of one member; and that transactions with one end have no record in common. `store/specs/VanLoads.antt` has it in numbers.
use Rattle.std.specs.Prelude.{ℕ, zero, suc, ◌+◌, ◌^◌, ◌<◌, Bool, true, false, cond, ◌&&◌, ◌≡◌, List, [], ◌∷◌}
use Rattle.std.proofs.Math.Option.{some}
use Rattle.layout.specs.Entries.{made}
use Rattle.layout.specs.Told.{ok, is_refusal}
use Rattle.desk.specs.Coherent.{coherent_b}
use Rattle.desk.specs.Desk.{copied_rec, session_at}
use Rattle.desk.specs.Entering.{agrees_b}
use Rattle.desk.specs.Group.{member}
use Rattle.desk.specs.declared.state.Phase.TheVariants.{Published}
use Rattle.desk.specs.declared.state.Desk.{Desk}
use Rattle.history.specs.Call.{Call, publish, group}
use Rattle.history.specs.Desk.{find, found}
use Rattle.history.specs.History.{Seal}
use Rattle.claims.specs.Demands.{PublishRight}
use Rattle.claims.specs.Rules.{Reply, Rules}
use Rattle.claims.specs.Run.{opened, run}

-- ---- sets

-- what the bits of the sessions below n that pass the test are worth together
unfoldable pub worth_below : ℕ → (ℕ → Bool) → ℕ
worth_below zero p = 0
worth_below (suc s) p = worth_below s p + cond (p s) (2 ^ s) 0

-- a 16-bit set is what the bits of its members are worth, 2 to the s for session s; no set has a member from 16 on
pub record SetsRead : Type 0 where
  pub worth : (set : ℕ) → set < 65536 → worth_below 16 (λ s. member s set) ≡ set
  pub few : (s set : ℕ) → member s set ≡ true → s < 16

-- ---- on any image and desk

-- a group ends, ticks and stores as publish does; each member is published with that one end and the copies that it had; all else stays. No
-- record is copied by two members, and the desk behind it is coherent with the image that is left
pub record GroupRight (img : List ℕ) (d : Desk) (set : ℕ) (y : Reply) : Type 0 where
  pub as-publish : PublishRight img d y
  pub members : (s : ℕ) → member s set ≡ true
      → session_at y.desk s
      ≡ record { phase = Published (d.clock + 1); count = (session_at d s).count; slot = (session_at d s).slot; copies = (session_at d s).copies }
  pub others : (s : ℕ) → member s set ≡ false → session_at y.desk s ≡ session_at d s
  pub marks : y.desk.holders ≡ d.holders
  pub list : y.desk.order ≡ d.order
  pub n-same : y.desk.n ≡ d.n
  pub m-same : y.desk.m ≡ d.m
  pub apart : (s t i j : ℕ) → member s set ≡ true → member t set ≡ true → i < (session_at d s).count → j < (session_at d t).count
      → copied_rec (session_at d s) i ≡ copied_rec (session_at d t) j → s ≡ t
  pub coherent : (coherent_b y.desk && agrees_b (made y.entries img) y.desk.clock y.desk.n y.desk.m) ≡ true

-- wherever it is not refused; `Refusals` has when it is, and that nothing is changed then
abbrev pub GroupStores : Rules → Type 0
GroupStores R = (img : List ℕ) (d : Desk) (len set : ℕ) → is_refusal (R.call img d (group len set)).told ≡ false
    → GroupRight img d set (R.call img d (group len set))

-- publish of s is the group of s alone: what is told, the entries, their number and the desk, refused or not
abbrev pub OneMember : Rules → Type 0
OneMember R = (img : List ℕ) (d : Desk) (len s : ℕ) → s < 16 → R.call img d (group len (2 ^ s)) ≡ R.call img d (publish len s)

-- ---- along any list of calls

-- no record is in both drafts, if they have one end
abbrev pub Parted : Seal → Seal → Type 0
Parted x y = (e : ℕ) → x.end ≡ some e → y.end ≡ some e → (r : ℕ) → (found (find r x.draft) && found (find r y.draft)) ≡ false

abbrev pub PartedFrom : Seal → List Seal → Type 0
PartedFrom x [] = Unit {0}
PartedFrom x (y ∷ ys) = Parted x y × PartedFrom x ys

-- any two entries of the list
abbrev pub AllParted : List Seal → Type 0
AllParted [] = Unit {0}
AllParted (x ∷ xs) = PartedFrom x xs × AllParted xs

-- from any image that opens
abbrev pub SharedEnds : Rules → Type 0
SharedEnds R = (img : List ℕ) (len : ℕ) → (R.opens img len).told ≡ ok → (calls : List Call)
    → AllParted (run R calls (opened R img len)).ledger.history.sealed
