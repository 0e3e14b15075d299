use Rattle.std.proofs.Common.{◌≡◌, ◌∙◌, ◌+◌, ◌<◌, ◌≤◌, ℕ, List, Bor, ap, length, eqb, arith, lit<}
use Rattle.std.specs.Prelude.{map}
use Rattle.std.specs.List.{slice_split}
use Rattle.std.proofs.lemmas.List.{length-map}
use Rattle.std.proofs.lemmas.Iterator.Splits.{YieldsList-from_str_split}
use Rattle.std.proofs.lemmas.Iterator.Consumers.{YieldsList-end, YieldsList-turn}
use Rattle.prof_path.specs.Terms.{terms_among}
use Rattle.prof_path.proofs.Pieces.{pieces-le, terms-le}
use Rattle.prof_path.proofs.searching.count_of_terms.Goals as goal

abbrev nows : List (Bor (List ℕ)) → List (List ℕ)
nows yielded = map (λ (b : Bor (List ℕ)). b.now) yielded

length-nows : (yielded : List (Bor (List ℕ))) → length (nows yielded) ≡ length yielded
length-nows yielded = simp length-map

pub overflow_add-count : goal.overflow_add-count
overflow_add-count c =
    let t = YieldsList-turn (YieldsList-from_str_split 44 c.args.text.now (lit< tt) (cc) (cc) (cc)) c.loop-piece.yielded _ c.loop-piece.yielded_by _ _ c.in-Some.piece c.in-Some.is c.next.ensures.steps in
    let few : length c.loop-piece.yielded < length (slice_split (λ b. eqb b 44) c.args.text.now) = t.0 in
    let pieces : length (slice_split (λ b. eqb b 44) c.args.text.now) ≤ length c.args.text.now + 1 = pieces-le (λ b. eqb b 44) c.args.text.now in
    let terms : length (terms_among (nows c.loop-piece.yielded)) ≤ length (nows c.loop-piece.yielded) = terms-le (nows c.loop-piece.yielded) in
    let same : length (nows c.loop-piece.yielded) ≡ length c.loop-piece.yielded = length-nows c.loop-piece.yielded in
    let count : c.loop-piece.count ≡ length (terms_among (nows c.loop-piece.yielded)) = c.loop-piece.invariant in
    let short : length c.args.text.now ≤ 256 = c.requires in
    let small : c.loop-piece.count + 1 ≤ 257 = omega arith in
    omega (arith, small)

pub returns : goal.returns
returns c =
    let t = YieldsList-end (YieldsList-from_str_split 44 c.args.text.now (lit< tt) (cc) (cc) (cc)) c.loop-piece.yielded _ c.loop-piece.yielded_by _ _ c.in-None.is c.next.ensures.steps in
    c.loop-piece.invariant ∙ ap (λ pieces. length (terms_among pieces)) t.0
