-- The six figures of a portfolio.
use Rattle.std.specs.Prelude.{ℤ, ◌-ℤ◌}
use Rattle.margin.specs.declared.Figures.{Figures}
use Rattle.margin.specs.Numbers.{half_up}
use Rattle.margin.specs.Sheets.{Sheet}
use Rattle.margin.specs.Holdings.{Holding, value_of, first_ratio}
use Rattle.margin.specs.Fillings.{worst}

-- initial margin: value less first ratio; minimum margin: half of it; second ratio: value less minimum margin
abbrev pub figures_of : Sheet → Holding → Figures
figures_of s h =
    let v : ℤ = value_of s h in
    let n : ℤ = first_ratio s h in
    record { value = v; initial = v -ℤ n; minimum = half_up (v -ℤ n); first = n; second = v -ℤ half_up (v -ℤ n); worst = worst s h }
