-- The words of docs/RULES.md, A finding explained: what the two numbers of each rule's condition are.
use Rattle.std.specs.Prelude.{ℕ, Bool, cond, List, [], ◌∷◌, eqb}
use Rattle.numbered.specs.Numbered.{Numbered, row_of}
use Rattle.characters.specs.Words.{spelled}

infixl 50 ◌says◌
-- a rule's number, and words
abbrev pub ◌says◌ : ℕ → List ℕ → Numbered (List ℕ)
rule says words = record { number = rule; row = words }

-- The table: the words of the first condition or of the second, in a round stack or in a rectangular one
unfoldable pub sayings : ℕ → Bool → List (Numbered (List ℕ))
sayings which round =
    (5 says spelled "20 x the difference of the meter's factors; its factor before the run (factors in 0.0001)")
    ∷ (6 says spelled "the nozzle's highest less its lowest diameter; the most that they may differ (0.001 in)")
    ∷ (7 says cond round
    (spelled "the diameter of the stack; the least diameter (0.1 in)")
    (spelled "2 x first side x second side; 120 x the sum of both sides (sides in 0.1 in)"))
    ∷ (8 says cond (eqb which 1)
    (cond round
    (spelled "2 x the distance to the next disturbance; the diameter of the stack (0.1 in)")
    (spelled "the distance to the next disturbance x the sum of both sides; first side x second side (distance and sides in 0.1 in)"))
    (cond round
    (spelled "the distance from the last disturbance; 2 x the diameter of the stack (0.1 in)")
    (spelled "the distance from the last disturbance x the sum of both sides; 4 x first side x second side (distance and sides in 0.1 in)")))
    ∷ (9 says cond (eqb which 1)
    (cond round
    (spelled "points; the least number of points in a round stack with these disturbances")
    (spelled "points; the least number of points in a rectangular stack with these disturbances"))
    (cond round
    (spelled "points; the next number of points allowed in a round stack, a multiple of 4")
    (spelled "points; the next number of points allowed in a rectangular stack, or 49, the highest")))
    ∷ (10 says spelled "time at the point; the least time (seconds)")
    ∷ (11 says spelled "5 x time x leak; the smaller of 100 x time and 12 x volume (time in seconds, leak in 0.001 cfm, volume in 0.001 ft3)")
    ∷ (12 says spelled "line 3, the corrected volume; no volume (0.001 ft3)")
    ∷ (14 says spelled "line 15, the velocity; no velocity (0.001 ft/s)")
    ∷ (15 says spelled "percent isokinetic before rounding; its lower limit (0.01 percent)")
    ∷ (16 says spelled "percent isokinetic before rounding; its upper limit (0.01 percent)")
    ∷ (17 says spelled "100 x the difference of the final weights; the larger of 500 and the net weight (0.1 mg)")
    ∷ (18 says spelled "filters weighed; the least number of filters")
    ∷ (19 says spelled "rinses weighed; the least number of rinses")
    ∷ (20 says spelled "line 19, the catch; the least catch (0.1 mg)")
    ∷ []

-- What the left number and the right one are; a rule that compares nothing has no words
unfoldable pub words_of : ℕ → ℕ → Bool → List ℕ
words_of rule which round = row_of [] (sayings which round) rule
