-- The worked job of docs/RULES.md, as values: one run, its two meter certificates, its pitot tube's and its nozzle's.
use Rattle.std.specs.Prelude.{ℕ, List, [], ◌∷◌, ◌++◌, pos, negsuc, replicate}
use Rattle.readings.specs.Ranges.{meter, pitot, nozzle, no_letter, round_shape, filter_kind, rinse_kind}
use Rattle.records.specs.declared.Certificate.{Certificate}
use Rattle.records.specs.declared.Identity.{Identity}
use Rattle.records.specs.declared.Point.{Point}
use Rattle.records.specs.declared.Run.{Run}
use Rattle.records.specs.Records.{no_point, no_segment, no_weighing}

-- maker ABC with a serial number, never rebuilt
abbrev pub abc : ℕ → Identity
abc n = record { maker = record { first = 65; second = 66; third = 67 }; serial = n; letter = no_letter }

-- meter ABC 10442: Y 10,000 on day 8990 and 9,800 on day 9020; pitot tube ABC 1: 840; nozzle ABC 2: 250 three times
abbrev pub worked_certificates : List Certificate
worked_certificates =
    record { kind = meter; identity = abc 10442; day = 8990; first = 10000; second = 0; third = 0 }
    ∷ record { kind = meter; identity = abc 10442; day = 9020; first = 9800; second = 0; third = 0 }
    ∷ record { kind = pitot; identity = abc 1; day = 8990; first = 840; second = 0; third = 0 }
    ∷ record { kind = nozzle; identity = abc 2; day = 8990; first = 250; second = 250; third = 250 }
    ∷ []

-- each of its points
abbrev pub worked_point : Point
worked_point = record { seconds = 450; head = 500; orifice = 200; stack = pos 2000; inlet = pos 800; outlet = pos 800 }

-- run 7 of day 9000
abbrev pub worked_run : Run
worked_run =
    record {
      header = record {
        number = 7;
        day = 9000;
        meter = abc 10442;
        pitot = abc 1;
        nozzle = abc 2;
        pb = 3000;
        pg = negsuc 67;
        co2 = 120;
        o2 = 60;
        first = 100000;
        last = 140000;
        water = 1000;
        site = record { shape = round_shape; first = 240; second = 0; next = 480; last = 1920 };
        acetone = record { residue = 8; blank = 200; rinse = 100; density = 7851 };
        counts = record { points = 8; segments = 1; weighings = 2 };
      };
      points = replicate 8 worked_point ++ replicate 56 no_point;
      segments = record { seconds = 3600; leak = 30 } ∷ replicate 15 no_segment;
      weighings =
          record { kind = filter_kind; tare = 4000; first = 4912; second = 4910 }
          ∷ record { kind = rinse_kind; tare = 1000000; first = 1000153; second = 1000150 }
          ∷ replicate 6 no_weighing;
    }
