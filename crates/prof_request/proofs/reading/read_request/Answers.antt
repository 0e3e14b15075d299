use Rattle.std.proofs.Common.{◌≡◌, ◌-◌, ◌<◌, ℕ, List, length, ap, sym, subst, ◌∙◌, arith}
use Rattle.std.specs.Prelude.{min}
use Rattle.prof_spell.specs.Spelling.{IsStuck, IsTaken}
use Rattle.prof_request.specs.declared.refusal.TheConstants.{LINE_LIMIT}
use Rattle.prof_request.specs.Requests.{lines, IsNoLine}
use Rattle.prof_request.proofs.OutcomeLemmas.{looked, line_spelled, line_left, line_stuck}
use Rattle.prof_request.proofs.reading.read_request.Goals as goal
use Rattle.prof_request.proofs.reading.read_request.Goals.{else-len-eq0-via-then-len-eq0+else-line-le-LINE_LIMIT, else-len-eq0-via-else-len-eq0}

pub returns-then-line-le-LINE_LIMIT : goal.returns-then-line-le-LINE_LIMIT
returns-then-line-le-LINE_LIMIT c =
    let start : c.new-cursor.result ≡ looked c.args.line.now = c.new-cursor.ensures ∙ c.front_of-front.ensures in
    let taken = subst (λ (s : List ℕ). IsTaken lines s c.in-Ok.request c.request.new.cursor) start c.in-Ok.ensures in
    line_spelled c.args.line.now c.request.new.cursor c.in-Ok.request taken (omega arith) (omega arith)

pub returns-else-len-eq0 : goal.returns-else-len-eq0
returns-else-len-eq0 c =
    let left = c.request.new.cursor in
    let start : c.new-cursor.result ≡ looked c.args.line.now = c.new-cursor.ensures ∙ c.front_of-front.ensures in
    let taken = subst (λ (s : List ℕ). IsTaken lines s c.in-Ok.request left) start c.in-Ok.ensures in
    let why : length left ≡ 0 → LINE_LIMIT < length c.args.line.now =
    elim c.else-len-eq0.branch [
      | else-len-eq0-via-then-len-eq0+else-line-le-LINE_LIMIT w ↦ λ e. let long = w.if-line-le-LINE_LIMIT.false in omega arith
      | else-len-eq0-via-else-len-eq0 w ↦ λ e. let some = w.if-len-eq0.false in absurd (omega arith)
    ] in
    let size : length c.front_of-front.result.now ≡ length (looked c.args.line.now) = ap length c.front_of-front.ensures in
    let same : length (looked c.args.line.now) - length left ≡ length c.front_of-front.result.now - c.len-in-Ok.result = omega arith in
    subst (λ (n : ℕ). IsNoLine c.args.line.now n) (ap (λ n. min n LINE_LIMIT) same ∙ sym c.capped.ensures) (line_left c.args.line.now left c.in-Ok.request taken why)

pub returns-in-Err-Fault : goal.returns-in-Err-Fault
returns-in-Err-Fault c =
    let left = c.request.new.cursor in
    let start : c.new-cursor.result ≡ looked c.args.line.now = c.new-cursor.ensures ∙ c.front_of-front.ensures in
    let stuck = subst (λ (s : List ℕ). IsStuck lines s left) start (rw c.in-Err-Fault.field-0-is at c.in-Err-Fault.ensures) in
    let size : length c.front_of-front.result.now ≡ length (looked c.args.line.now) = ap length c.front_of-front.ensures in
    let same : length (looked c.args.line.now) - length left ≡ length c.front_of-front.result.now - c.len-in-Err-Fault.result = omega arith in
    subst (λ (n : ℕ). IsNoLine c.args.line.now n) (ap (λ n. min n LINE_LIMIT) same ∙ sym c.capped-in-Err-Fault.ensures) (line_stuck c.args.line.now left stuck)
