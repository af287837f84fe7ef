use Rattle.std.proofs.Common.{[], ◌∷◌}
use Rattle.eurocode.specs.Tables.{diameters, strengths}
use Rattle.bars.specs.Tests.{in_range}
use Rattle.bars.proofs.books.BarBook.admitted.Goals as goal

pub returns : goal.returns
unfolding in_range diameters strengths
returns g c i =
    c.admit.ensures i ∷ c.admit-2.ensures i ∷ c.admit-3.ensures i ∷ c.admit-4.ensures i ∷ c.admit-5.ensures i ∷ c.admit-6.ensures i ∷ c.admit-7.ensures i ∷ c.admit-8.ensures i ∷ c.admit-9.ensures i ∷ c.admit-10.ensures i ∷ c.admit-11.ensures i ∷ c.admit-12.ensures i ∷ c.admit-13.ensures i ∷ c.admit-14.ensures i ∷ c.admit-15.ensures i ∷ c.admit-16.ensures i ∷ c.admit-17.ensures i ∷ c.admit-18.ensures i ∷ c.admit-19.ensures i ∷ c.admit-20.ensures i ∷ c.admit-21.ensures i ∷ c.admit-22.ensures i ∷ c.admit-23.ensures i ∷ []
