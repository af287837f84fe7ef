-- Bonds and the numbers that stand for them. Assumes nothing.
use Rattle.std.specs.Prelude.{ℕ, cond, Result, Ok, Err, ◌==◌}
use Rattle.anchorage.specs.declared.bonds.Bond.{Bond}
use Rattle.anchorage.specs.declared.bonds.Bond.TheVariants.{Good, Other}
use Rattle.anchorage.specs.declared.bonds.UnknownBond.{UnknownBond}

-- 1 is good, 2 other
abbrev pub bond_number : Bond → ℕ
bond_number Good = 1
bond_number Other = 2

-- the bond of a number; any other number is handed back
abbrev pub bond_numbered : ℕ → Result Bond UnknownBond
bond_numbered n = cond (n == 1) (Ok Good) (cond (n == 2) (Ok Other) (Err (record { number = n })))
