use Prim.Native.Nat.{◌<◌}
use mathlib.Core.Path.{◌≡◌, refl, sym, ap, ◌∙◌}
use native.Mathlib.Omega.{arith}
use borrow.Author.Tests.{eq-eqb, ne_eqb, lt-ltb}
use lib.ListN.{get_or}
use Rattle.layout.specs.Below.{lowest}
use Rattle.layout.proofs.BelowLaws.{lowest-more, lowest-finds}
use Rattle.desk.proofs.Facts.{says-coherent}
use Rattle.snapshot.specs.Read.{sight_at}
use Rattle.snapshot.specs.declared.seeing.Sight.{Sight}
use Rattle.snapshot.proofs.OwnPlace.{holder-small, holder-found}
use Rattle.snapshot.proofs.ReadLaws.{sight-by}
use Rattle.listening.specs.Find.{seen_matches}
use Rattle.listening.proofs.finding.first_match.Goals as goal
use Rattle.listening.proofs.finding.first_match.Goals.{After-marked_session, After-seen-sight, In-loop-r}

-- the record is one of the 256
small : (c : In-loop-r) → c.loop-r.r < 256
small c = omega (arith, ((says-coherent _).yes c.requires).n-high)

holder : (c : After-marked_session) → c.marked_session.result < 16
holder c = rw c.marked_session.ensures (holder-small _ ((says-coherent _).yes c.requires) _ (omega (arith, ((says-coherent _).yes c.requires).n-high)))

-- word 0 of what is seen of it
word-is : (c : After-seen-sight)
    → let a = c.args in
    get_or c.seen-sight.result.words 0 0 ≡ get_or (sight_at a.image.now a.desk.now a.start c.loop-r.r).words 0 0
word-is c =
    let a = c.args in
    ap (λ (x : Sight). get_or x.words 0 0)
    (sight-by a.image.now a.desk.now c.loop-r.r a.start a.start c.marked_session.result _ c.seen-sight.ensures refl c.marked_session.ensures)

pub loop-r-init : goal.loop-r-init
unfolding lowest
loop-r-init c = refl

pub bounds-desk-r : goal.bounds-desk-r
bounds-desk-r c = small (goal.at.bounds-desk-r c).In-loop-r

pub bounds-desk-marked_session : goal.bounds-desk-marked_session
bounds-desk-marked_session c = holder c

pub seen-sight-requires : goal.seen-sight-requires
seen-sight-requires c =
    (small (goal.at.seen-sight-requires c).In-loop-r, holder-found _ ((says-coherent _).yes c.requires) _ (small (goal.at.seen-sight-requires c).In-loop-r) _ c.marked_session.ensures)

pub returns-then-sight-shelf : goal.returns-then-sight-shelf
returns-then-sight-shelf c =
    let a = c.args in
    let l = c.loop-r in
    let h : l.r < a.desk.now.n = omega arith in
    let m = eq-eqb _ _ (sym (word-is (goal.at.returns-then-sight-shelf c).After-seen-sight) ∙ c.if-sight-shelf.true) in
    rw (lowest-finds (seen_matches a.image.now a.desk.now a.start a.shelf) _ l.r h l.invariant m, lt-ltb _ _ h) refl

pub loop-r-preserved : goal.loop-r-preserved
loop-r-preserved c =
    lowest-more _ _ c.loop-r.invariant (ne_eqb _ _ (λ z. c.if-sight-shelf.false (word-is (goal.at.loop-r-preserved c).After-seen-sight ∙ z)))
