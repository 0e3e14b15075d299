use Rattle.std.proofs.Common.{◌≡◌, ◌∙◌, Option, None, Some, refl, ap}
use Rattle.std.specs.Prelude.{codes}
use Rattle.std.specs.Option.{option_or}
use Rattle.prof_grammar.specs.Value.{last_named}
use Rattle.prof_gecko.specs.declared.gathered.TableFault.{TableFault}
use Rattle.prof_processes.proofs.fault.object_fault.Goals as goal

-- five checks in their order, however they are grouped
regroup : (s d p l r : Option TableFault) → option_or (option_or (option_or s d) (option_or p l)) r ≡ option_or s (option_or d (option_or p (option_or l (option_or r None))))
regroup (Some x) d p l r = refl
regroup None (Some x) p l r = refl
regroup None None (Some x) l r = refl
regroup None None None (Some x) r = refl
regroup None None None None (Some x) = refl
regroup None None None None None = refl

five_same : (s s' d d' p p' l l' r r' : Option TableFault) → s ≡ s' → d ≡ d' → p ≡ p' → l ≡ l' → r ≡ r' →
    option_or (option_or (option_or s d) (option_or p l)) r ≡ option_or s' (option_or d' (option_or p' (option_or l' (option_or r' None))))
five_same s s' d d' p p' l l' r r' hs hd hp hl hr = rw (hs, hd, hp, hl, hr) (regroup s' d' p' l' r')

pub returns : goal.returns
returns c most ms h =
    let s = c.schema_fault.ensures (last_named (codes "schema") ms) h.schema in
    let d = c.data_fault.ensures most (last_named (codes "data") ms) h.rows in
    let p = c.places_fault.ensures (last_named (codes "schema") ms) h.schema in
    let l = c.lacking.ensures (last_named (codes "schema") ms) h.schema in
    let r = c.rows_fault.ensures most (last_named (codes "data") ms) h.rows in
    c.or-2.ensures
    ∙ ap (λ (o : Option TableFault). option_or o c.rows_fault.result) (c.or.ensures
    ∙ ap (λ (o : Option TableFault). option_or o c.or-columns.result) c.or-kinds.ensures
    ∙ ap (λ (o : Option TableFault). option_or (option_or c.schema_fault.result c.data_fault.result) o) c.or-columns.ensures)
    ∙ five_same c.schema_fault.result _ c.data_fault.result _ c.places_fault.result _ c.lacking.result _ c.rows_fault.result _ s d p l r
