use Rattle.std.proofs.Common.{◌∙◌, ◌<◌, ◌≤◌, [], List, ℕ, Bor, Some, length, ap, sym, arith}
use Rattle.std.proofs.lemmas.List.{get_or-map, length-map, take_all}
use Rattle.prof_words.specs.Files.{named_file, names_differ}
use Rattle.prof_words.specs.Numbers.{each}
use Rattle.prof_words.specs.Reading.{texts}
use Rattle.prof_words.proofs.Each.{each-none}
use Rattle.prof_words.proofs.Names.{each-more_at, files_of-all, files_of-none, files_of-twice_at, names_differ-more}
use Rattle.prof_words.proofs.files.files_of.Goals as goal

pub returns-in_default : goal.returns-in_default
returns-in_default c =
    let words = c.args.words.now in
    let i = c.loop-word.word-index in
    let below = c.loop-word-test.true in
    let many = length-map words (λ (w : Bor (List ℕ)). w.now) in
    let within : i < length (texts words) = omega arith in
    files_of-none (texts words) (each-none named_file (texts words) i [] within (ap named_file (get_or-map (λ (w : Bor (List ℕ)). w.now) words i _ [] below) ∙ sym c.in_default.ensures))

pub returns-then-has : goal.returns-then-has
returns-then-has c =
    let words = c.args.words.now in
    let i = c.loop-word.word-index in
    let below = c.loop-word-test.true in
    let many = length-map words (λ (w : Bor (List ℕ)). w.now) in
    let within : i < length (texts words) = omega arith in
    files_of-twice_at (texts words) i c.loop-word.files (c.in-Some.name.now, c.in-Some.file.now) within c.loop-word.invariant.named
    (ap named_file (get_or-map (λ (w : Bor (List ℕ)). w.now) words i _ [] below) ∙ sym c.in-Some.ensures) (sym c.if-has.ensures)

pub loop-word-preserved : goal.loop-word-preserved
loop-word-preserved c =
    let words = c.args.words.now in
    let i = c.loop-word.word-index in
    let below = c.loop-word-test.true in
    let many = length-map words (λ (w : Bor (List ℕ)). w.now) in
    let within : i < length (texts words) = omega arith in
    record {
      named =
          each-more_at (texts words) i c.loop-word.files (c.in-Some.name.now, c.in-Some.file.now) within c.loop-word.invariant.named
          (ap named_file (get_or-map (λ (w : Bor (List ℕ)). w.now) words i _ [] below) ∙ sym c.in-Some.ensures)
          ∙ ap (λ l. Some l) (sym c.in-Ok.ensures.ok);
      differ = ap names_differ c.in-Ok.ensures.ok ∙ names_differ-more c.loop-word.files (c.in-Some.name.now, c.in-Some.file.now) c.loop-word.invariant.differ (sym c.if-has.ensures);
    }

pub returns : goal.returns
returns c =
    let words = c.args.words.now in
    let i = c.loop-word.word-index in
    let over = c.loop-word-test.false in
    let many = length-map words (λ (w : Bor (List ℕ)). w.now) in
    let all : length (texts words) ≤ i = omega arith in
    files_of-all (texts words) c.loop-word.files (ap (each named_file) (sym (take_all i (texts words) all)) ∙ c.loop-word.invariant.named) c.loop-word.invariant.differ
