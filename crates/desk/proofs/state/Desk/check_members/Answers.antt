use Rattle.std.proofs.Common.{rules, tests, true, false}
use mathlib.Core.Path.{◌≡◌, refl, sym, ◌∙◌}
use Rattle.std.proofs.lemmas.Iterator.{YieldsList-from_range}
use Rattle.std.proofs.lemmas.Iterator.Search.{any_from_yields_List, all_from_yields_List}
use Rattle.layout.proofs.ListLaws.{all_range, any_range}
use Rattle.layout.specs.Below.{all_below, any_below}
use Rattle.layout.specs.Checks.{first, answered}
use Rattle.layout.specs.Refusal.{cause}
use Rattle.desk.specs.Group.{member, member_low, member_sealed, set_fault}
use Rattle.desk.proofs.state.Desk.check_members.Goals as goal
use Rattle.desk.proofs.state.Desk.check_members.Goals.{Else-not-any, Else-not-all, Then-not-all-2, Else-not-all-2}

pub returns-then-not-any : goal.returns-then-not-any
unfolding set_fault first answered cause
returns-then-not-any c =
    rw (sym (any_range (λ k. member k c.args.set) 16)
    ∙ sym (any_from_yields_List (λ k. member k c.args.set) _ _ _ c.any.ensures.ran (YieldsList-from_range 0 16 16 refl refl) (λ x b q k. search (rules, tests)))
    ∙ c.if-not-any.true) refl

-- there is a member
some : (c : Else-not-any) → any_below 16 (λ k. member k c.args.set) ≡ true
some c =
    sym (any_range (λ k. member k c.args.set) 16)
    ∙ sym (any_from_yields_List (λ k. member k c.args.set) _ _ _ c.any.ensures.ran (YieldsList-from_range 0 16 16 refl refl) (λ x b q k. search (rules, tests)))
    ∙ c.if-not-any.false

pub returns-then-not-all : goal.returns-then-not-all
unfolding set_fault first answered cause
returns-then-not-all c =
    rw (
      some (goal.at.returns-then-not-all c).Else-not-any,
      sym (all_range (member_low c.args.self.now c.args.set) 16)
          ∙ sym (all_from_yields_List (member_low c.args.self.now c.args.set) _ _ _ c.all.ensures.ran (YieldsList-from_range 0 16 16 refl refl) (λ x b q k. search (rules, tests)))
          ∙ c.if-not-all.true,
    ) refl

-- each is below M
low : (c : Else-not-all) → all_below 16 (member_low c.args.self.now c.args.set) ≡ true
low c =
    sym (all_range (member_low c.args.self.now c.args.set) 16)
    ∙ sym (all_from_yields_List (member_low c.args.self.now c.args.set) _ _ _ c.all.ensures.ran (YieldsList-from_range 0 16 16 refl refl) (λ x b q k. search (rules, tests)))
    ∙ c.if-not-all.false

-- not each is sealed
busy : (c : Then-not-all-2) → all_below 16 (member_sealed c.args.self.now c.args.set) ≡ false
busy c =
    sym (all_range (member_sealed c.args.self.now c.args.set) 16)
    ∙ sym (all_from_yields_List (member_sealed c.args.self.now c.args.set) _ _ _ c.all-2.ensures.ran (YieldsList-from_range 0 16 16 refl refl) (λ x b q k. search (rules, tests)))
    ∙ c.if-not-all-2.true

pub returns-then-not-all-2 : goal.returns-then-not-all-2
unfolding set_fault first answered cause
returns-then-not-all-2 c =
    let at = goal.at.returns-then-not-all-2 c in rw (some at.Else-not-any, low at.Else-not-all, busy c) refl

-- each is
sealed : (c : Else-not-all-2) → all_below 16 (member_sealed c.args.self.now c.args.set) ≡ true
sealed c =
    sym (all_range (member_sealed c.args.self.now c.args.set) 16)
    ∙ sym (all_from_yields_List (member_sealed c.args.self.now c.args.set) _ _ _ c.all-2.ensures.ran (YieldsList-from_range 0 16 16 refl refl) (λ x b q k. search (rules, tests)))
    ∙ c.if-not-all-2.false

pub returns : goal.returns
unfolding set_fault first answered
returns c =
    let at = goal.at.returns c in rw (some at.Else-not-any, low at.Else-not-all, sealed c) refl
