use Rattle.std.proofs.Common.{◌≡◌, ℕ, ◌<◌, List, length, map, sym, ◌∙◌, ap, subst, arith}
use Rattle.std.specs.List.{All}
use Rattle.std.proofs.lemmas.List.{length-map}
use Rattle.std.proofs.lemmas.List.Elements.{All-weaker}
use Rattle.prof_gecko_names.specs.Keys.{key_of}
use Rattle.prof_gecko.specs.Columns.{FrameCells}
use Rattle.prof_gecko.proofs.Deriving.{rows_ready, derived_lists, derived_numbers}
use Rattle.prof_gecko.proofs.derived.Derived.of.Goals as goal

pub number_by_first_use-requires : goal.number_by_first_use-requires
number_by_first_use-requires c =
    let keys : length c.deref-4.result.now ≡ length c.deref-3.result.now = ap (λ ks. length ks) (c.deref-4.ensures.value ∙ c.in_ok-keys.ensures) ∙ length-map c.deref-3.result.now _ in
    let places : length c.deref-3.result.now ≡ length c.in_ok-places.places.items = ap (λ ps. length ps) c.deref-3.ensures.value in
    let rows = c.in_ok-places.ensures.count in
    let few = c.requires.fit.few in
    omega arith

pub lists_of-requires : goal.lists_of-requires
lists_of-requires c =
    let keys : length c.deref-4.result.now ≡ length c.deref-3.result.now = ap (λ ks. length ks) (c.deref-4.ensures.value ∙ c.in_ok-keys.ensures) ∙ length-map c.deref-3.result.now _ in
    let places : length c.deref-3.result.now ≡ length c.deref-5.result.now = ap (λ ps. length ps) (c.deref-3.ensures.value ∙ sym c.deref-5.ensures.value) in
    let same : length c.deref-5.result.now ≡ length c.in_ok-places.places.items = ap (λ ps. length ps) c.deref-5.ensures.value in
    let rows = c.in_ok-places.ensures.count in
    let few = c.requires.fit.few in
    let most = c.requires.few in
    let strings : length c.in_ok-strings.strings ≡ length c.args.strings.value = ap (λ ts. length ts) c.in_ok-strings.ensures in
    let held : length c.deref.result.now ≡ length c.args.strings.value = ap (λ ts. length ts) c.deref.ensures in
    let count = c.count.ensures in
    let ready = rows_ready c.deref-5.result.now c.deref-6.result.now c.deref-4.result.now (c.deref-6.ensures.value ∙ c.in_ok-numbering.ensures.rows) (keys ∙ places) in
    let within = All-weaker (λ p. p < c.count.result) (λ p. p < length c.in_ok-strings.strings) (λ p lt. omega arith) c.in_ok-places.places.items c.in_ok-places.ensures.within in
    record { places = subst (λ (ps : List ℕ). All (λ p. p < length c.in_ok-strings.strings) ps) (sym c.deref-5.ensures.value) within; rows = ready.0; few_strings = omega arith; few_rows = (let k = ready.1 in omega arith) }

pub returns : goal.returns
returns c =
    let libs = c.args.libs.now in
    let strings = c.args.strings.value in
    let at = c.deref-5.ensures.value ∙ c.in_ok-places.ensures.rows in
    let keys : c.deref-4.result.now ≡ map (key_of libs strings) c.deref-5.result.now =
    c.deref-4.ensures.value ∙ c.in_ok-keys.ensures
    ∙ ap (λ s. map (key_of libs s) c.deref-3.result.now) c.deref-2.ensures
    ∙ ap (map (key_of libs strings)) (c.deref-3.ensures.value ∙ sym c.deref-5.ensures.value) in
    record {
      lists = derived_lists libs strings c.in_ok-strings.strings c.args.frames.now c.in_ok-lists.lists c.deref-5.result.now c.deref-6.result.now c.deref-4.result.now c.frames.inside.relevant_for_js
          c.in_ok-strings.ensures at keys (c.deref-6.ensures.value ∙ c.in_ok-numbering.ensures.rows) (ap (λ (f : FrameCells). f.relevant_for_js) c.frames.view_is) c.in_ok-lists.ensures;
      numbers = derived_numbers libs strings c.args.frames.now c.deref-5.result.now c.in_ok-numbering.numbering.numbers.items c.deref-4.result.now at keys c.in_ok-numbering.ensures.numbers;
    }
