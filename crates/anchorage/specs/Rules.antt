-- The eight rules of a bar (EN 1992-1-1, 8.2, 8.3, 8.4 and 8.7), as tests. A rule that does not apply is met. Assumes nothing.
use Rattle.std.specs.Prelude.{◌+◌, ◌*◌, Bool, true, false, ◌&&◌, ◌||◌, List, [], ◌∷◌, nat_le}
use Rattle.measure.specs.Fractions.{Fraction, ◌over◌, ◌·◌, ◌÷◌, ◌plus◌}
use Rattle.measure.specs.Rounding.{reaches}
use Rattle.anchorage.specs.declared.Bar.{Bar}
use Rattle.anchorage.specs.declared.Detail.{Detail}
use Rattle.anchorage.specs.declared.Layers.{Layers}
use Rattle.anchorage.specs.declared.Layers.TheVariants.{One, Several}
use Rattle.anchorage.specs.declared.Shape.{Shape}
use Rattle.anchorage.specs.declared.Shape.TheVariants.{Straight, Bent, Loop}
use Rattle.anchorage.specs.declared.Ties.{Ties}
use Rattle.anchorage.specs.declared.Ties.TheVariants.{Links, Other}
use Rattle.anchorage.specs.Quantities.{φ, As, σ, fck, αcc, γc}
use Rattle.anchorage.specs.Lengths.{figure}

infixr 30 ◌⇒◌
-- y holds where x does
abbrev pub ◌⇒◌ : Bool → Bool → Bool
true ⇒ y = y
false ⇒ y = true

abbrev pub straight : Shape → Bool
straight Straight = true
straight Bent = false
straight Loop = false

-- more than one layer
abbrev pub several : Layers → Bool
several One = false
several Several = true

-- links or U bars
abbrev pub linked : Ties → Bool
linked Links = true
linked Other = false

abbrev pub tension_lap : Detail → Bool
tension_lap d = d.lap && d.tension

-- the concrete's design strength
unfoldable pub fcd : Bar → Fraction
fcd b = αcc b · fck b ÷ γc b

-- the mandrel below which the concrete inside the bend splits
unfoldable pub least_mandrel : Bar → Fraction
least_mandrel b = As b · σ b · (2 over b.pitch plus 1 over (2 * φ b)) ÷ fcd b

-- the gap is at least k1·φ, the aggregate and k2, and 20
abbrev pub rule1 : Bar → Bool
rule1 b = nat_le (b.k1 * φ b) (10 * b.gap) && (nat_le (b.agg + b.k2) b.gap && nat_le 20 b.gap)

-- bent bars and loops: the mandrel is at least the annex's multiple of φ
abbrev pub rule2 : Detail → Bar → Bool
rule2 d b = straight d.shape || nat_le (b.multiple * φ b) b.mandrel

-- bent bars and loops: the mandrel is wide enough for the concrete
unfoldable pub rule3 : Detail → Bar → Bool
rule3 d b = straight d.shape || reaches b.mandrel (least_mandrel b)

-- laps in tension in several layers: at most half of the bars
abbrev pub rule4 : Detail → Bar → Bool
rule4 d b = tension_lap d && several b.layers ⇒ nat_le b.share 50

-- laps: clear of each other by 2φ and 20
abbrev pub rule5 : Detail → Bar → Bool
rule5 d b = d.lap ⇒ nat_le (2 * φ b) b.apart && nat_le 20 b.apart

-- laps in tension of bars from 20 mm, a quarter lapped or more: transverse steel as much as one bar
abbrev pub rule6 : Detail → Bar → Bool
rule6 d b = tension_lap d && (nat_le 20 (φ b) && nat_le 25 b.share) ⇒ nat_le b.area b.trans

-- laps in tension of bars from 20 mm, more than half lapped and at most 10φ apart: links or U bars
abbrev pub rule7 : Detail → Bar → Bool
rule7 d b = tension_lap d && (nat_le 20 (φ b) && (nat_le 51 b.share && nat_le b.apart (10 * φ b))) ⇒ linked b.ties

-- the length provided is at least the figure
abbrev pub rule8 : Detail → Bar → Bool
rule8 d b = nat_le (figure d b) b.provided

-- which rules are met, in their order
abbrev pub rules : Detail → Bar → List Bool
rules d b = rule1 b ∷ rule2 d b ∷ rule3 d b ∷ rule4 d b ∷ rule5 d b ∷ rule6 d b ∷ rule7 d b ∷ rule8 d b ∷ []
