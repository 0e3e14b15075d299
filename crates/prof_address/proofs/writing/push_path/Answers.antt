use Rattle.std.proofs.Common.{◌≡◌, ℕ, ◌+◌, ◌<◌, ◌++◌, ◌∷◌, [], List, length, take, get_or, ap, sym, ◌∙◌, arith, append_assoc, append-nil}
use Rattle.std.proofs.lemmas.List.{take_all}
use Rattle.std.specs.Fmt.{decimal}
use Rattle.prof_address.specs.Transforms.{paths}
use Rattle.prof_address.proofs.Marks.{first_item, next_item}
use Rattle.prof_address.proofs.writing.push_path.Goals as goal
use Rattle.prof_address.proofs.writing.push_path.Goals.{then-i-gt0+in_ok-push_str, else-i-gt0}

pub funcs-init : goal.funcs-init
funcs-init c = sym (append-nil c.args.text.now)

pub funcs-preserved : goal.funcs-preserved
funcs-preserved c =
    let xs = c.as_slice-func-items.result.now in
    let i = c.funcs.i in
    let start = c.args.text.now in
    let so : List ℕ = paths.text (take i xs) in
    let d : List ℕ = decimal (get_or xs i 0) in
    let small : i < length xs = c.funcs-test.true in
    let last : c.push_number.new.text ≡ c.if-i-gt0.text ++ d = c.in_ok-push_number.ensures.ok in
    elim c.if-i-gt0.branch [
      | then-i-gt0+in_ok-push_str w ↦
          let mid : c.if-i-gt0.text ≡ c.funcs.text ++ 46 ∷ [] = w.text-is ∙ w.in_ok-push_str.ensures.ok in
          let more : paths.text (take (i + 1) xs) ≡ so ++ (46 ∷ d) = next_item decimal 46 xs i 0 small w.if-i-gt0.true in
          last ∙ ap (λ t. t ++ d) (mid ∙ ap (λ t. t ++ 46 ∷ []) c.funcs.invariant) ∙ append_assoc (start ++ so) (46 ∷ []) d ∙ append_assoc start so (46 ∷ d) ∙ ap (λ t. start ++ t) (sym more)
      | else-i-gt0 w ↦
          let zero_i : i ≡ 0 = omega arith in
          let mid : c.if-i-gt0.text ≡ start = w.text-is ∙ c.funcs.invariant ∙ ap (λ n. start ++ paths.text (take n xs)) zero_i ∙ append-nil start in
          let one : paths.text (take (i + 1) xs) ≡ d = ap (λ n. paths.text (take (n + 1) xs)) zero_i ∙ first_item decimal 46 xs 0 (omega arith) ∙ ap (λ n. decimal (get_or xs n 0)) (sym zero_i) in
          last ∙ ap (λ t. t ++ d) mid ∙ ap (λ t. start ++ t) (sym one)
    ]

pub returns : goal.returns
returns c =
    let xs = c.as_slice-func-items.result.now in
    c.funcs.invariant ∙ ap (λ t. c.args.text.now ++ paths.text t) (take_all c.funcs.i xs (omega arith) ∙ c.as_slice-func-items.ensures)
