use Rattle.std.proofs.Common.{◌≡◌, ◌≢◌, List, [], ◌∷◌, ◌++◌, ◌≤◌, false, refl, sym, subst, ◌∙◌, lit<, arith, length}
use Rattle.std.specs.Prelude.{None, ◌==◌, ◌||◌, codes}
use Rattle.std.proofs.lemmas.Grind.{common_steps}
use Rattle.prof_grammar.specs.Machine.{class, step, a_true, a_false, a_null, as_value}
use Rattle.prof_token.specs.Ahead.{IsNext}
use Rattle.prof_token.specs.Bytes.{is_digit}
use Rattle.prof_json.specs.Gives.{told_by, parts_behind}
use Rattle.prof_json.specs.Parts.{behind}
use Rattle.prof_token.proofs.Machines.{goes_trans, goes_byte, goes_wrong, goes_over}
use Rattle.prof_json.proofs.Standing as st
use Rattle.prof_token.proofs.Written.{writes_goes, writes_on, writes_fault}
use Rattle.prof_json.proofs.Closing.{unopened}
use Rattle.std.proofs.lemmas.Result.{err_from_is_err_and}
use Rattle.prof_json.proofs.Enclosing.{begins_array, begins_object, begins_str, begins_number, begins_true, begins_false, begins_null, ahead_by}
use Rattle.prof_token.proofs.Journeys.{moves_trans, moves_pass, moves_here}
use Rattle.std.specs.Prelude.{Ok}
use Rattle.prof_json.specs.declared.nesting.Bracket.{Bracket}
use Rattle.prof_json.specs.declared.nesting.Bracket.TheVariants.{Array, Object}
use Rattle.prof_json.specs.declared.answer.Event.TheVariants.{ArrayStart, ObjectStart, Number, True, False, Null}
use Rattle.prof_token.proofs.Owning.{HasOwn, owns_byte, owns_passed, owns_word}
use Rattle.prof_json.proofs.value.begin_value.Goals as goal

pub returns-in_err-read_string-in-34-clause-moves : goal.returns-in_err-read_string-in-34-clause-moves
returns-in_err-read_string-in-34-clause-moves g c =
    let r = c.from_residual-in_err-read_string-in-34 in
    let p = err_from_is_err_and r.result r.ensures.1 in
    rw (p.1, p.2) (moves_trans (moves_pass (moves_here _ _) c.pass.ensures) c.in_err-read_string-in-34.ensures.moves)

pub returns-in_ok-open_bracket-in-91-clause-moves : goal.returns-in_ok-open_bracket-in-91-clause-moves
returns-in_ok-open_bracket-in-91-clause-moves g c = moves_pass (moves_here _ _) c.in_ok-open_bracket-in-91.ensures.ok.0

pub returns-in_ok-open_bracket-in-91-clause-ok : goal.returns-in_ok-open_bracket-in-91-clause-ok
returns-in_ok-open_bracket-in-91-clause-ok g c = let h = c.in_ok-open_bracket-in-91.ensures.ok in begins_array h.1 h.2 h.0

pub returns-in_ok-open_bracket-in-123-clause-moves : goal.returns-in_ok-open_bracket-in-123-clause-moves
returns-in_ok-open_bracket-in-123-clause-moves g c = moves_pass (moves_here _ _) c.in_ok-open_bracket-in-123.ensures.ok.0

pub returns-in_ok-open_bracket-in-123-clause-ok : goal.returns-in_ok-open_bracket-in-123-clause-ok
returns-in_ok-open_bracket-in-123-clause-ok g c = let h = c.in_ok-open_bracket-in-123.ensures.ok in begins_object h.1 h.2 h.0

pub returns-in_ok-read_string-in-34-clause-moves : goal.returns-in_ok-read_string-in-34-clause-moves
returns-in_ok-read_string-in-34-clause-moves g c = moves_trans (moves_pass (moves_here _ _) c.pass.ensures) c.in_ok-read_string-in-34.ensures.moves

pub returns-in_ok-read_string-in-34-clause-ok : goal.returns-in_ok-read_string-in-34-clause-ok
returns-in_ok-read_string-in-34-clause-ok g c =
    let p = c.pass.ensures.place in
    let q = c.in_ok-read_string-in-34.ensures.moves.on in
    begins_str c.requires.few (omega arith)

pub returns-in_ok-pass_word-in-116-clause-ok : goal.returns-in_ok-pass_word-in-116-clause-ok
returns-in_ok-pass_word-in-116-clause-ok g c = begins_true c.requires.few (ahead_by _ _ 4 (lit< tt) c.in_ok-pass_word-in-116.ensures.further)

pub returns-in_ok-pass_word-in-102-clause-ok : goal.returns-in_ok-pass_word-in-102-clause-ok
returns-in_ok-pass_word-in-102-clause-ok g c = begins_false c.requires.few (ahead_by _ _ 5 (lit< tt) c.in_ok-pass_word-in-102.ensures.further)

pub returns-in_ok-pass_word-in-110-clause-ok : goal.returns-in_ok-pass_word-in-110-clause-ok
returns-in_ok-pass_word-in-110-clause-ok g c = begins_null c.requires.few (ahead_by _ _ 4 (lit< tt) c.in_ok-pass_word-in-110.ensures.further)

pub returns-in_ok-read_whole_number-in_default-clause-ok : goal.returns-in_ok-read_whole_number-in_default-clause-ok
returns-in_ok-read_whole_number-in_default-clause-ok g c = begins_number c.requires.few c.in_ok-read_whole_number-in_default.ensures.further c.in_ok-read_whole_number-in_default.ensures.text

pub returns-in_err-open_bracket-in-91-clause-exact : goal.returns-in_err-open_bracket-in-91-clause-exact
returns-in_err-open_bracket-in-91-clause-exact g c = λ begun qs e h.
    let r = c.from_residual in
    let p = err_from_is_err_and r.result r.ensures.1 in
    let xs = c.args.brackets.now.items in
    rw (p.1, p.2) (writes_fault (unopened {b = c.args.input.now} {m = None} {qs = qs} {es = []} xs c.requires.next (e ∙ st.begins_array c.args.first (behind xs) c.in-91.is) (st.opened_array xs) c.in_err-open_bracket-in-91.ensures.deep))

pub returns-in_ok-open_bracket-in-91-clause-exact : goal.returns-in_ok-open_bracket-in-91-clause-exact
returns-in_ok-open_bracket-in-91-clause-exact g c = λ begun qs e h.
    let ok = c.in_ok-open_bracket-in-91.ensures.ok in
    let xs = c.args.brackets.now.items in
    let few : length (xs ++ Array ∷ []) ≤ 256 = subst (λ (ys : List Bracket). length ys ≤ 256) ok.1 ok.2 in
    writes_goes (told_by (Ok ArrayStart)) (λ t. parts_behind (Ok ArrayStart) c.open_bracket.new.brackets.items) [] h
    (rw (ok.1, st.behind_array xs) (goes_byte c.args.first c.requires.next ok.0 (e ∙ st.begins_array c.args.first (behind xs) c.in-91.is) (st.array_few xs few)))

pub returns-in_err-open_bracket-in-123-clause-exact : goal.returns-in_err-open_bracket-in-123-clause-exact
returns-in_err-open_bracket-in-123-clause-exact g c = λ begun qs e h.
    let r = c.from_residual-in_err-open_bracket-in-123 in
    let p = err_from_is_err_and r.result r.ensures.1 in
    let xs = c.args.brackets.now.items in
    rw (p.1, p.2) (writes_fault (unopened {b = c.args.input.now} {m = None} {qs = qs} {es = []} xs c.requires.next (e ∙ st.begins_object c.args.first (behind xs) c.in-123.is) (st.opened_object xs) c.in_err-open_bracket-in-123.ensures.deep))

pub returns-in_ok-open_bracket-in-123-clause-exact : goal.returns-in_ok-open_bracket-in-123-clause-exact
returns-in_ok-open_bracket-in-123-clause-exact g c = λ begun qs e h.
    let ok = c.in_ok-open_bracket-in-123.ensures.ok in
    let xs = c.args.brackets.now.items in
    let few : length (xs ++ Object ∷ []) ≤ 256 = subst (λ (ys : List Bracket). length ys ≤ 256) ok.1 ok.2 in
    writes_goes (told_by (Ok ObjectStart)) (λ t. parts_behind (Ok ObjectStart) c.open_bracket-in-123.new.brackets.items) [] h
    (rw (ok.1, st.behind_object xs) (goes_byte c.args.first c.requires.next ok.0 (e ∙ st.begins_object c.args.first (behind xs) c.in-123.is) (st.object_few xs few)))

pub returns-in_err-read_string-in-34-clause-exact : goal.returns-in_err-read_string-in-34-clause-exact
returns-in_err-read_string-in-34-clause-exact g c = λ begun qs e h.
    let r = c.from_residual-in_err-read_string-in-34 in
    let p = err_from_is_err_and r.result r.ensures.1 in
    let xs = c.args.brackets.now.items in
    let d = st.behind_few xs c.requires.few in
    let quote = goes_byte c.args.first c.requires.next c.pass.ensures (e ∙ st.begins_string c.args.first (behind xs) c.in-34.is) d in
    rw (p.1, p.2) (writes_fault (goes_trans quote (c.in_err-read_string-in-34.ensures.exact begun as_value [] (behind xs) h d).goes))

pub returns-in_ok-read_string-in-34-clause-exact : goal.returns-in_ok-read_string-in-34-clause-exact
returns-in_ok-read_string-in-34-clause-exact g c = λ begun qs e h.
    let xs = c.args.brackets.now.items in
    let d = st.behind_few xs c.requires.few in
    let quote = goes_byte c.args.first c.requires.next c.pass.ensures (e ∙ st.begins_string c.args.first (behind xs) c.in-34.is) d in
    writes_on quote (c.in_ok-read_string-in-34.ensures.exact begun as_value [] (behind xs) h d)

pub returns-in_err-pass_word-in-116-clause-exact : goal.returns-in_err-pass_word-in-116-clause-exact
returns-in_err-pass_word-in-116-clause-exact g c = λ begun qs e h.
    let r = c.from_residual-in_err-pass_word-in-116 in
    let p = err_from_is_err_and r.result r.ensures.1 in
    let xs = c.args.brackets.now.items in
    let next : IsNext 116 c.args.input.now = rw c.in-116.is at c.requires.next in
    let first : step qs (class 116) 116 ≡ _ = rw c.in-116.is at e in
    let began = goes_over {l = g.S.Counted.left c.args.src.now} 116 next (first ∙ st.begins_true (behind xs)) in
    rw (p.1, p.2) (writes_fault (goes_trans began (c.in_err-pass_word-in-116.ensures.exact a_true (behind xs) (st.behind_few xs c.requires.few))))

pub returns-in_ok-pass_word-in-116-clause-exact : goal.returns-in_ok-pass_word-in-116-clause-exact
returns-in_ok-pass_word-in-116-clause-exact g c = λ begun qs e h.
    let xs = c.args.brackets.now.items in
    let next : IsNext 116 c.args.input.now = rw c.in-116.is at c.requires.next in
    let first : step qs (class 116) 116 ≡ _ = rw c.in-116.is at e in
    let began = goes_over {l = g.S.Counted.left c.args.src.now} 116 next (first ∙ st.begins_true (behind xs)) in
    writes_goes (told_by (Ok True)) (λ t. behind xs) [] h (goes_trans began (c.in_ok-pass_word-in-116.ensures.exact a_true (behind xs) (st.behind_few xs c.requires.few)))

pub returns-in_err-pass_word-in-102-clause-exact : goal.returns-in_err-pass_word-in-102-clause-exact
returns-in_err-pass_word-in-102-clause-exact g c = λ begun qs e h.
    let r = c.from_residual-in_err-pass_word-in-102 in
    let p = err_from_is_err_and r.result r.ensures.1 in
    let xs = c.args.brackets.now.items in
    let next : IsNext 102 c.args.input.now = rw c.in-102.is at c.requires.next in
    let first : step qs (class 102) 102 ≡ _ = rw c.in-102.is at e in
    let began = goes_over {l = g.S.Counted.left c.args.src.now} 102 next (first ∙ st.begins_false (behind xs)) in
    rw (p.1, p.2) (writes_fault (goes_trans began (c.in_err-pass_word-in-102.ensures.exact a_false (behind xs) (st.behind_few xs c.requires.few))))

pub returns-in_ok-pass_word-in-102-clause-exact : goal.returns-in_ok-pass_word-in-102-clause-exact
returns-in_ok-pass_word-in-102-clause-exact g c = λ begun qs e h.
    let xs = c.args.brackets.now.items in
    let next : IsNext 102 c.args.input.now = rw c.in-102.is at c.requires.next in
    let first : step qs (class 102) 102 ≡ _ = rw c.in-102.is at e in
    let began = goes_over {l = g.S.Counted.left c.args.src.now} 102 next (first ∙ st.begins_false (behind xs)) in
    writes_goes (told_by (Ok False)) (λ t. behind xs) [] h (goes_trans began (c.in_ok-pass_word-in-102.ensures.exact a_false (behind xs) (st.behind_few xs c.requires.few)))

pub returns-in_err-pass_word-in-110-clause-exact : goal.returns-in_err-pass_word-in-110-clause-exact
returns-in_err-pass_word-in-110-clause-exact g c = λ begun qs e h.
    let r = c.from_residual-in_err-pass_word-in-110 in
    let p = err_from_is_err_and r.result r.ensures.1 in
    let xs = c.args.brackets.now.items in
    let next : IsNext 110 c.args.input.now = rw c.in-110.is at c.requires.next in
    let first : step qs (class 110) 110 ≡ _ = rw c.in-110.is at e in
    let began = goes_over {l = g.S.Counted.left c.args.src.now} 110 next (first ∙ st.begins_null (behind xs)) in
    rw (p.1, p.2) (writes_fault (goes_trans began (c.in_err-pass_word-in-110.ensures.exact a_null (behind xs) (st.behind_few xs c.requires.few))))

pub returns-in_ok-pass_word-in-110-clause-exact : goal.returns-in_ok-pass_word-in-110-clause-exact
returns-in_ok-pass_word-in-110-clause-exact g c = λ begun qs e h.
    let xs = c.args.brackets.now.items in
    let next : IsNext 110 c.args.input.now = rw c.in-110.is at c.requires.next in
    let first : step qs (class 110) 110 ≡ _ = rw c.in-110.is at e in
    let began = goes_over {l = g.S.Counted.left c.args.src.now} 110 next (first ∙ st.begins_null (behind xs)) in
    writes_goes (told_by (Ok Null)) (λ t. behind xs) [] h (goes_trans began (c.in_ok-pass_word-in-110.ensures.exact a_null (behind xs) (st.behind_few xs c.requires.few)))

pub returns-in_err-read_whole_number-in_default-clause-exact : goal.returns-in_err-read_whole_number-in_default-clause-exact
returns-in_err-read_whole_number-in_default-clause-exact g c = λ begun qs e h.
    let r = c.from_residual-in_err-read_whole_number-in_default in
    let p = err_from_is_err_and r.result r.ensures.1 in
    let w = c.in_err-read_whole_number-in_default.ensures.exact begun qs (rw c.deref.ensures.value e) h (rw c.deref.ensures.value c.requires.few) in
    rw (p.1, p.2) (writes_fault w.goes)

pub returns-in_ok-read_whole_number-in_default-clause-exact : goal.returns-in_ok-read_whole_number-in_default-clause-exact
returns-in_ok-read_whole_number-in_default-clause-exact g c = λ begun qs e h.
    let w = c.in_ok-read_whole_number-in_default.ensures.exact begun qs (rw c.deref.ensures.value e) h (rw c.deref.ensures.value c.requires.few) in
    writes_goes (told_by (Ok Number)) (λ t. behind c.args.brackets.now.items) w.text (w.kept refl) (rw c.deref.ensures.value at w.goes)

pub returns-in_default-2-clause-exact : goal.returns-in_default-2-clause-exact
returns-in_default-2-clause-exact g c = λ begun qs e h.
    let b = c.args.first in
    let n1 : b ≢ 91 = grind (arith, common_steps) in
    let n2 : b ≢ 123 = grind (arith, common_steps) in
    let n3 : b ≢ 34 = grind (arith, common_steps) in
    let n4 : b ≢ 116 = grind (arith, common_steps) in
    let n5 : b ≢ 102 = grind (arith, common_steps) in
    let n6 : b ≢ 110 = grind (arith, common_steps) in
    let no : ((b == 45) || is_digit b) ≡ false = sym c.begins_number.ensures ∙ c.if-begins_number.false in
    writes_fault (goes_wrong {b = c.args.input.now} {m = None} {qs = qs} {es = []} b c.requires.next (e ∙ st.begins_none b (behind c.args.brackets.now.items) n1 n2 n3 n4 n5 n6 (st.no_minus b no) (st.no_digit b no)) c.wrong.ensures)

pub returns-in_ok-open_bracket-in-91-clause-own : goal.returns-in_ok-open_bracket-in-91-clause-own
returns-in_ok-open_bracket-in-91-clause-own g c =
    let next : IsNext 91 c.args.input.now = rw c.in-91.is at c.requires.next in
    owns_byte _ next refl c.in_ok-open_bracket-in-91.ensures.ok.0

pub returns-in_ok-open_bracket-in-123-clause-own : goal.returns-in_ok-open_bracket-in-123-clause-own
returns-in_ok-open_bracket-in-123-clause-own g c =
    let next : IsNext 123 c.args.input.now = rw c.in-123.is at c.requires.next in
    owns_byte _ next refl c.in_ok-open_bracket-in-123.ensures.ok.0

pub returns-in_ok-read_string-in-34-clause-own : goal.returns-in_ok-read_string-in-34-clause-own
returns-in_ok-read_string-in-34-clause-own g c = owns_passed c.pass.ensures c.in_ok-read_string-in-34.ensures.own

true_own : HasOwn (codes "true")
true_own = record { others = codes "tru"; last = 101; is = refl; own = refl }

false_own : HasOwn (codes "false")
false_own = record { others = codes "fals"; last = 101; is = refl; own = refl }

null_own : HasOwn (codes "null")
null_own = record { others = codes "nul"; last = 108; is = refl; own = refl }

pub returns-in_ok-pass_word-in-116-clause-own : goal.returns-in_ok-pass_word-in-116-clause-own
returns-in_ok-pass_word-in-116-clause-own g c = owns_word true_own c.in_ok-pass_word-in-116.ensures.read

pub returns-in_ok-pass_word-in-102-clause-own : goal.returns-in_ok-pass_word-in-102-clause-own
returns-in_ok-pass_word-in-102-clause-own g c = owns_word false_own c.in_ok-pass_word-in-102.ensures.read

pub returns-in_ok-pass_word-in-110-clause-own : goal.returns-in_ok-pass_word-in-110-clause-own
returns-in_ok-pass_word-in-110-clause-own g c = owns_word null_own c.in_ok-pass_word-in-110.ensures.read
