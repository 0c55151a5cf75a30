mod Turns
mod WalkLaws
mod OneTurnLaws
mod Laws
