use Rattle.std.proofs.Common.{◌≡◌, ◌≤◌, ◌++◌, vec_len}
use Rattle.std.specs.List.{flat_map}
use Rattle.indexmap.specs.IndexMap.{values}
use Rattle.prof_schema.specs.Fields.{field_text}
use Rattle.prof_schema.proofs.fields.MarkerFields.add_texts.Given as goal

abbrev pub invariant-loop-value : goal.invariant-loop-value
invariant-loop-value l = record {
  texts : l.texts.items ++ flat_map field_text l.value-iterator ≡ l.fn.texts.items ++ flat_map field_text (values l.self.fields);
  grows : vec_len l.fn.texts ≤ vec_len l.texts;
}
