-- Rows in whose paths terms occur
use Rattle.std.proofs.Common.{◌≡◌, ℕ, ◌+◌, ◌<◌, ◌≤◌, Bool, true, false, ◌||◌, ◌&&◌, List, [], ◌∷◌, ◌++◌, length, take, replicate, get_or, Option, Some, None, inl, inr, sym, ap, ◌∙◌, refl, arith}
use Rattle.std.specs.Prelude.{slice_get, IfSome}
use Rattle.std.specs.List.{list_any}
use Rattle.std.specs.Option.{option_map_or}
use Rattle.std.proofs.lemmas.List.{take_all, length-replicate, get_or-replicate}
use Rattle.std.proofs.lemmas.List.Folds.{list_any-append, list_all_more}
use Rattle.std.proofs.lemmas.Option.{get_or_from_slice_get}
use Rattle.prof_tables.specs.declared.rows.StackRow.{StackRow}
use Rattle.prof_tables.specs.Threads.{SharedTables}
use Rattle.prof_tables.specs.Paths.{path, step_of, PrefixesBelow}
use Rattle.prof_tables.proofs.PathLemmas.{path-row}
use Rattle.prof_path.specs.Finals.{occurs_in, occurs, found}
use Rattle.prof_layer.proofs.RowLaws.{path-none}
use Rattle.prof_view_tree.specs.Showing.{AreMet, AreFound, flag_at}
use Rattle.prof_view_tree.proofs.ShownRows.{kept_at, last_at}
use Rattle.prof_tree.proofs.Walking.{in_or_last, length-snoc}

either-way : (a b : Bool) → (a || (b || false)) ≡ (b || a)
either-way true true = refl
either-way true false = refl
either-way false true = refl
either-way false false = refl

module _ (t : SharedTables) (term : List ℕ) (rows : List StackRow) where
  pub met_first : AreMet t term rows 0 []
  met_first = record { count = refl; each = λ r h. absurd (omega arith) }

  module _ (n : ℕ) (met funcs : List Bool) (row : StackRow) (below : PrefixesBelow rows) (here : slice_get rows n ≡ Some row) where
    pub prefix_met : length met ≡ n → IfSome row.prefix (λ p. p < length met)
    prefix_met e = by row.prefix (below n row here)
      where
        by : (o : Option ℕ) → IfSome o (λ p. p < n) → IfSome o (λ p. p < length met)
        by None h = tt
        by (Some p) h = omega arith

    pub met_more : (b : Bool) → row.func < length funcs → ((f : ℕ) → f < length funcs → slice_get funcs f ≡ Some (occurs_in t term f)) → AreMet t term rows n met
        → b ≡ (flag_at funcs row.func || option_map_or (flag_at met) row.prefix false) → AreMet t term rows (n + 1) (met ++ b ∷ [])
    met_more b fits known m is = record {
      count = length-snoc met b ∙ ap (λ k. k + 1) m.count;
      each = λ r h. elim (in_or_last r n h) [
        | inl k ↦ kept_at met b false r (omega (arith, m.count)) ∙ m.each r k
        | inr same ↦ ap (flag_at (met ++ b ∷ [])) (same ∙ sym m.count) ∙ (last_at met b false ∙ (is ∙ (whole ∙ sym (ap (λ q. list_any (occurs t term) (path rows (Some q))) same))))
      ];
    }
      where
        over : (o : Option ℕ) → IfSome o (λ p. p < n) → option_map_or (flag_at met) o false ≡ list_any (occurs t term) (path rows o)
        over None h = sym (ap (list_any (occurs t term)) (path-none rows))
        over (Some p) h = m.each p h

        whole : (flag_at funcs row.func || option_map_or (flag_at met) row.prefix false) ≡ list_any (occurs t term) (path rows (Some n))
        whole =
            ap (λ a. a || option_map_or (flag_at met) row.prefix false) (get_or_from_slice_get funcs row.func (occurs_in t term row.func) false (known row.func fits))
            ∙ (ap (λ a. occurs_in t term row.func || a) (over row.prefix (below n row here))
            ∙ (sym (either-way (list_any (occurs t term) (path rows row.prefix)) (occurs_in t term row.func))
            ∙ sym (ap (list_any (occurs t term)) (path-row rows n row below here) ∙ list_any-append (occurs t term) (path rows row.prefix) (step_of row ∷ []))))

-- after the first terms
pub record AreSoFar (t : SharedTables) (terms : List (List ℕ)) (n : ℕ) (rows : List StackRow) (kept : List Bool) : Type 0 where
  pub count : length kept ≡ length rows
  pub each : (r : ℕ) → r < length rows → flag_at kept r ≡ found t (take n terms) (path rows (Some r))

module _ (t : SharedTables) (terms : List (List ℕ)) (rows : List StackRow) where
  pub found_first : (kept : List Bool) → kept ≡ replicate (length rows) true → AreSoFar t terms 0 rows kept
  found_first kept e = record {
    count = ap length e ∙ length-replicate (length rows) true;
    each = λ r h. ap (λ l. flag_at l r) e ∙ get_or-replicate (length rows) r true false h;
  }

  pub found_more : (n : ℕ) (term : List ℕ) (kept met kept' : List Bool) → n < length terms → get_or terms n term ≡ term → AreSoFar t terms n rows kept → AreMet t term rows (length rows) met → length kept' ≡ length kept
      → ((r : ℕ) → r < length kept → flag_at kept' r ≡ (flag_at kept r && flag_at met r)) → AreSoFar t terms (n + 1) rows kept'
  found_more n term kept met kept' inside here s m len each = record {
    count = len ∙ s.count;
    each = λ r h.
        each r (omega (arith, s.count))
        ∙ (ap (λ a. a && flag_at met r) (s.each r h)
        ∙ (ap (λ a. found t (take n terms) (path rows (Some r)) && a) (m.each r h)
        ∙ (ap (λ z. found t (take n terms) (path rows (Some r)) && list_any (occurs t z) (path rows (Some r))) (sym here)
        ∙ sym (list_all_more (λ z. list_any (occurs t z) (path rows (Some r))) terms n term inside))));
  }

  pub found_all : (n : ℕ) (kept : List Bool) → length terms ≤ n → AreSoFar t terms n rows kept → AreFound t terms rows kept
  found_all n kept past s = record {
    count = s.count;
    each = λ r h. s.each r h ∙ ap (λ l. found t l (path rows (Some r))) (take_all n terms past);
  }
