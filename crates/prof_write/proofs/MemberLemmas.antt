-- The texts of a marker as members.
use Rattle.std.proofs.Common.{◌≡◌, ◌∙◌, ◌<◌, ℕ, List, [], ◌++◌, codes, length, get_or}
use Rattle.std.specs.Prelude.{map}
use Rattle.std.specs.Fmt.{decimal}
use Rattle.std.specs.List.{enumerate_from}
use Rattle.std.proofs.lemmas.List.{length-map}
use Rattle.std.proofs.lemmas.List.FromFn.{length-enumerate_from}
use Rattle.prof_grammar.specs.Value.{Value, string}
use Rattle.prof_writer.specs.Writing.{quoted}
use Rattle.prof_write.specs.Cells.{numbered}
use Rattle.prof_write.specs.Members.{member_text}
use Rattle.prof_write.proofs.CellLemmas.{mapped_at, numbered_at}

abbrev under_number : ℕ × List ℕ → List ℕ × Value
under_number p = (decimal p.0, string p.1)

pub length-members : (texts : List (List ℕ)) → length (map member_text (numbered texts)) ≡ length texts
length-members texts = length-map (numbered texts) member_text ∙ length-map (enumerate_from 0 texts) under_number ∙ length-enumerate_from 0 texts

pub member_at : (texts : List (List ℕ)) (i : ℕ) (text : List ℕ) → i < length texts → text ≡ get_or texts i text →
    get_or (map member_text (numbered texts)) i [] ≡ quoted (decimal i) ++ (codes ":" ++ quoted text)
member_at texts i text within is = mapped_at member_text under_number (enumerate_from 0 texts) i (i, text) [] (numbered_at texts i text within is)
