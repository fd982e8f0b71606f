-- Each list in turn, and then the seconds; a list that is clear ends within the file.
use Prim.Native.Nat.{ℕ, ◌+◌, ◌*◌, ◌≤◌}
use mathlib.Core.Path.{◌≡◌, ◌∙◌, sym, ap}
use mathlib.Core.Bool.{Bool}
use native.Mathlib.Omega.{arith}
use lib.Dec.{lit≤}
use lib.ListN.{length}
use Rattle.fields.specs.Trouble.{Clear, trouble_unless, wrong_seconds}
use Rattle.fields.proofs.Refusals.{refuses, passes}
use Rattle.opening.specs.Opening.{version_of}
use Rattle.heads.specs.Values.{run_header_size}
use Rattle.parts.specs.Values.{point_place, segment_place, point_size, segment_size}
use Rattle.parts.specs.Rows.{points_trouble, segments_trouble, weighings_trouble}
use Rattle.fields.proofs.RecordTrouble.{row_fits}
use Rattle.job.specs.Troubles.{parts_trouble}
use Rattle.job.proofs.runs.parts_trouble.Goals as goal
use Rattle.job.proofs.runs.parts_trouble.Goals.{After-size, In_ok-troubles, In_ok-troubles-2, In_ok-troubles-3}

-- where the points begin, in a file of a version
size : (c : After-size) → c.size.result ≡ run_header_size (version_of c.args.f.bytes.now)
size c = c.size.ensures ∙ ap run_header_size c.args.f.said

-- the points end within the file
points_end : (c : In_ok-troubles) → c.args.start + c.size.result + point_size * c.args.n.points ≤ length c.args.f.bytes.now
points_end c =
    row_fits _ _ point_size _ _ (lit≤ tt) (omega (arith, c.size.ensures, c.requires)) (sym c.in_ok-troubles.ensures)

-- the segments end within the file
segments_end : (c : In_ok-troubles-2) → c.args.start + c.size.result + point_size * c.args.n.points ≤ length c.args.f.bytes.now → c.args.start + c.size.result + point_size * c.args.n.points + segment_size * c.args.n.segments ≤ length c.args.f.bytes.now
segments_end c points = row_fits _ _ segment_size _ _ (lit≤ tt) points (sym c.in_ok-troubles-2.ensures)

-- each list that is clear
points_clear : (c : In_ok-troubles) → c.size.result ≡ run_header_size (version_of c.args.f.bytes.now) → Clear ≡ points_trouble c.args.f.bytes.now (c.args.start + run_header_size (version_of c.args.f.bytes.now)) c.args.n.points
points_clear c e = c.in_ok-troubles.ensures ∙ ap (λ (k : ℕ). points_trouble c.args.f.bytes.now (c.args.start + k) c.args.n.points) e

segments_clear : (c : In_ok-troubles-2) → c.size.result ≡ run_header_size (version_of c.args.f.bytes.now) → Clear ≡ segments_trouble c.args.f.bytes.now (point_place (version_of c.args.f.bytes.now) c.args.start c.args.n.points) c.args.n.segments
segments_clear c e = c.in_ok-troubles-2.ensures ∙ ap (λ (k : ℕ). segments_trouble c.args.f.bytes.now (c.args.start + k + point_size * c.args.n.points) c.args.n.segments) e

weighings_clear : (c : In_ok-troubles-3) → c.size.result ≡ run_header_size (version_of c.args.f.bytes.now) → Clear ≡ weighings_trouble c.args.f.bytes.now (segment_place (version_of c.args.f.bytes.now) c.args.start c.args.n c.args.n.segments) c.args.n.weighings
weighings_clear c e = c.in_ok-troubles-3.ensures ∙ ap (λ (k : ℕ). weighings_trouble c.args.f.bytes.now (c.args.start + k + point_size * c.args.n.points + segment_size * c.args.n.segments) c.args.n.weighings) e

pub returns-in_err-troubles : goal.returns-in_err-troubles
unfolding parts_trouble
returns-in_err-troubles c =
    let e = size (goal.at.returns-in_err-troubles c).After-size in
    refuses _ _ _ c.from_residual.ensures.1 (c.in_err-troubles.ensures ∙ ap (λ (k : ℕ). points_trouble c.args.f.bytes.now (c.args.start + k) c.args.n.points) e)

pub troubles-requires-2 : goal.troubles-requires-2
troubles-requires-2 c = points_end (goal.at.troubles-requires-2 c).In_ok-troubles

pub returns-in_err-troubles-2 : goal.returns-in_err-troubles-2
unfolding parts_trouble
returns-in_err-troubles-2 c =
    let at = goal.at.returns-in_err-troubles-2 c in
    let e = size at.After-size in
    passes (points_clear at.In_ok-troubles e)
    (refuses _ _ _ c.from_residual-in_err-troubles-2.ensures.1 (c.in_err-troubles-2.ensures ∙ ap (λ (k : ℕ). segments_trouble c.args.f.bytes.now (c.args.start + k + point_size * c.args.n.points) c.args.n.segments) e))

pub troubles-requires-3 : goal.troubles-requires-3
troubles-requires-3 c =
    let at = goal.at.troubles-requires-3 c in
    segments_end at.In_ok-troubles-2 (points_end at.In_ok-troubles)

pub returns-in_err-troubles-3 : goal.returns-in_err-troubles-3
unfolding parts_trouble
returns-in_err-troubles-3 c =
    let at = goal.at.returns-in_err-troubles-3 c in
    let e = size at.After-size in
    passes (points_clear at.In_ok-troubles e)
    (passes (segments_clear at.In_ok-troubles-2 e)
    (refuses _ _ _ c.from_residual-in_err-troubles-3.ensures.1 (c.in_err-troubles-3.ensures ∙ ap (λ (k : ℕ). weighings_trouble c.args.f.bytes.now (c.args.start + k + point_size * c.args.n.points + segment_size * c.args.n.segments) c.args.n.weighings) e)))

pub good_seconds-requires : goal.good_seconds-requires
good_seconds-requires c =
    let at = goal.at.good_seconds-requires c in
    omega (arith, segments_end at.In_ok-troubles-2 (points_end at.In_ok-troubles), c.size.ensures)

pub returns-then-not-good_seconds : goal.returns-then-not-good_seconds
unfolding parts_trouble
returns-then-not-good_seconds c =
    let at = goal.at.returns-then-not-good_seconds c in
    let e = size at.After-size in
    rw c.number.ensures
    (passes (points_clear at.In_ok-troubles e)
    (passes (segments_clear at.In_ok-troubles-2 e)
    (passes (weighings_clear at.In_ok-troubles-3 e) (ap (λ (b : Bool). trouble_unless b wrong_seconds c.args.start) (sym c.if-not-good_seconds.true ∙ c.good_seconds.ensures)))))

pub returns : goal.returns
unfolding parts_trouble
returns c =
    let at = goal.at.returns c in
    let e = size at.After-size in
    passes (points_clear at.In_ok-troubles e)
    (passes (segments_clear at.In_ok-troubles-2 e)
    (passes (weighings_clear at.In_ok-troubles-3 e) (ap (λ (b : Bool). trouble_unless b wrong_seconds c.args.start) (sym c.if-not-good_seconds.false ∙ c.good_seconds.ensures))))
