use mathlib.Core.Path.{refl}
use borrow.Author.Tests.{lt-ltb}
use Rattle.desk.specs.Group.{member}
use Rattle.desk.proofs.group.has.Goals as goal

pub returns : goal.returns
unfolding member
returns c = rw (lt-ltb _ 16 c.requires) refl
