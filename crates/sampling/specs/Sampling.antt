-- Lines 16 to 20 of docs/RULES.md: the nozzle, the percent isokinetic, the catch and the concentration.
use Rattle.std.specs.Prelude.{ℕ, ◌+◌, ◌*◌, ◌/◌, ◌^◌, min, cond, List, eqb, ℤ, pos, negsuc, get_or, Option, Some, None}
use Rattle.arith.specs.declared.Division.{Division}
use Rattle.std.proofs.Math.IntN.{sub_ℕ}
use Rattle.arith.specs.Rounding.{round_div, division}
use Rattle.records.specs.declared.Acetone.{Acetone}
use Rattle.records.specs.declared.Run.{Run}
use Rattle.records.specs.declared.Weighing.{Weighing}
use Rattle.records.specs.Records.{no_weighing, sum_to}
use Rattle.values.specs.declared.Diameters.{Diameters}
use Rattle.metering.specs.declared.Metering.{Metering}
use Rattle.stack.specs.declared.Stack.{Stack}
use Rattle.sampling.specs.declared.Sampling.{Sampling}

-- Line 16. Nozzle area, 10^-8 ft2, from the sum of the three diameters: absent without a nozzle certificate
unfoldable pub nozzle_area : Option Diameters → Option ℕ
nozzle_area None = None
nozzle_area (Some n) =
    Some (round_div (31416 * ((n.first + n.second + n.third) * (n.first + n.second + n.third))) 518400)

-- Line 17. Drawn gas
unfoldable pub drawn_gas : Option ℕ → ℕ → ℕ → ℕ → Option ℕ
drawn_gas None vapor pressure temperature = None
drawn_gas (Some dry) vapor pressure temperature =
    Some (round_div (945 * temperature * (dry + vapor)) (10 * pressure))

-- Line 18. Percent isokinetic, 0.01 percent, and before it is rounded its quotient and remainder: absent where line 15 is 0
unfoldable pub isokinetic : Option ℕ → Option ℕ → Option ℕ → ℕ → Option Division
isokinetic None velocity area t = None
isokinetic (Some drawn) None area t = None
isokinetic (Some drawn) (Some velocity) None t = None
isokinetic (Some drawn) (Some velocity) (Some area) t =
    cond (eqb velocity 0) None (Some (division (6 * 10 ^ 11 * drawn) (velocity * area * t)))

-- the acetone's share: the smaller of the blank's, rounded, and what the density allows, rounded down
unfoldable pub deduction : Acetone → ℕ
deduction a = min (round_div (a.residue * a.rinse) a.blank) (a.rinse * a.density / 100000)

-- the second final weights of all weighings
unfoldable pub final_weights : List Weighing → ℕ → ℕ
final_weights weighings n = sum_to (λ i. (get_or weighings i no_weighing).second) n

-- the tares of all weighings
unfoldable pub tares : List Weighing → ℕ → ℕ
tares weighings n = sum_to (λ i. (get_or weighings i no_weighing).tare) n

-- Line 19. Catch, 0.1 mg: second final weights less tares, less the acetone's share
unfoldable pub catch : List Weighing → ℕ → Acetone → ℤ
catch weighings n acetone = sub_ℕ (final_weights weighings n) (tares weighings n + deduction acetone)

-- Line 20. Concentration, 0.00001 gr/dscf: absent where line 19 is negative
unfoldable pub concentration : ℤ → Option ℕ → Option ℕ
concentration (negsuc c) dry = None
concentration (pos c) None = None
concentration (pos c) (Some dry) = Some (round_div (154300 * c) dry)

-- Lines 16 to 20 of a run whose lines 1 to 15 are worked
unfoldable pub sampling : Run → Metering → Stack → Option Diameters → Sampling
sampling r m s nozzle =
    let area : Option ℕ = nozzle_area nozzle in
    let drawn : Option ℕ = drawn_gas m.dry m.vapor s.pressure s.temperature in
    let caught : ℤ = catch r.weighings r.header.counts.weighings r.header.acetone in
    record {
      area = area;
      drawn = drawn;
      isokinetic = isokinetic drawn s.velocity area m.time;
      catch = caught;
      concentration = concentration caught m.dry;
    }
