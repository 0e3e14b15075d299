-- Worked scripts of requests
use Rattle.std.proofs.Common.{◌≡◌, ℕ, ◌+◌, ◌*◌, pos, List, [], ◌∷◌, ◌++◌, map, Option, Some, None, refl}
use Rattle.std.specs.Prelude.{codes, Ok}
use Rattle.std.specs.List.{flat_map, range_with_len}
use Rattle.prof_tables.specs.declared.rows.SampleRow.{SampleRow}
use Rattle.prof_raw.specs.declared.raw.Unit.TheVariants.{Samples}
use Rattle.prof_tables.specs.Threads.{ThreadTables}
use Rattle.prof_path.specs.declared.transform.Transform.TheVariants.{MergeFunction, DropFunction}
use Rattle.prof_path.specs.Rows.{p_tables}
use Rattle.prof_tree.specs.declared.node.Node.{Node}
use Rattle.prof_tree.specs.Trees.{TreeLists}
use Rattle.prof_request.specs.declared.request.Command.{Command}
use Rattle.prof_request.specs.declared.request.Command.TheVariants as ask
use Rattle.prof_machine.specs.declared.refusal.Refusal.TheVariants.{Stale, NothingToUndo, NothingToRedo, FuncOut, BadRange, LongSearch, NoSession, NameTaken}
use Rattle.prof_machine.specs.declared.refusal.Reply.{Reply}
use Rattle.prof_machine.specs.declared.refusal.Reply.TheVariants.{Done, Closed, Tree, Refused}
use Rattle.prof_machine.specs.Known.{Known}
use Rattle.prof_machine.specs.Play.{Held, Fate, Answered, Line, play}

abbrev at : ℕ → Option ℕ → SampleRow
at time stack = record { stack = stack; time = pos time; weight = pos 1 }

-- P: six samples, a millisecond apart, on A B C, on A B C B D twice, on A B, on D, and on no stack
abbrev p_thread : ThreadTables
p_thread = record {
  shared = p_tables;
  name = [];
  unit = Samples;
  samples = at 0 (Some 2) ∷ at 1000000 (Some 4) ∷ at 2000000 (Some 4) ∷ at 3000000 (Some 1) ∷ at 4000000 (Some 5) ∷ at 5000000 None ∷ [];
  markers = record { rows = []; texts = [] };
}

abbrev profiles : List (List ℕ × Known)
profiles = (codes "main", record { threads = p_thread ∷ []; digest = [] }) ∷ []

abbrev nothing : Held
nothing = record { sessions = []; kept = [] }

abbrev a : List ℕ
a = codes "a"

abbrev b : List ℕ
b = codes "b"

abbrev of : List ℕ → Command → Line × Fate
of name command = (Ok (record { session = name; command = command }), Answered)

abbrev replies : List (Line × Fate) → List Reply
replies lines = play profiles nothing lines

abbrev opening : List ℕ → Line × Fate
opening name = of name (ask.OpenOn (codes "main") 0)

abbrev row : ℕ → ℕ → ℕ → ℕ → Node
row depth func total own = record { depth = depth; func = func; total = pos total; own = pos own; category = 0 }

-- a change that comes twice acts once, and another at its version is stale
again : replies (opening a ∷ of a (ask.Push 0 (MergeFunction 1)) ∷ of a (ask.Push 0 (MergeFunction 1)) ∷ of a (ask.Push 0 (DropFunction 2)) ∷ [])
    ≡ Done 0 ∷ Done 1 ∷ Done 1 ∷ Refused (Stale 1) ∷ []
again = refl

back_and_forth : replies (opening a ∷ of a (ask.Push 0 (MergeFunction 1)) ∷ of a (ask.Undo 1) ∷ of a (ask.Redo 2) ∷ of a (ask.Undo 3) ∷ of a (ask.Push 4 (DropFunction 2)) ∷ of a (ask.Redo 5) ∷ [])
    ≡ Done 0 ∷ Done 1 ∷ Done 2 ∷ Done 3 ∷ Done 4 ∷ Done 5 ∷ Refused NothingToRedo ∷ []
back_and_forth = refl

nothing_to_undo : replies (opening a ∷ of a (ask.Undo 0) ∷ []) ≡ Done 0 ∷ Refused NothingToUndo ∷ []
nothing_to_undo = refl

-- the trees of P, of P without B's steps, and of P without the samples in which C occurs
abbrev whole : TreeLists
whole = record { nodes = row 0 0 4 0 ∷ row 1 1 4 1 ∷ row 2 2 3 1 ∷ row 3 1 2 0 ∷ row 4 3 2 2 ∷ row 0 3 1 1 ∷ []; selected = pos 6; dropped = pos 1 }

abbrev unless_c : TreeLists
unless_c = record { nodes = row 0 0 1 0 ∷ row 1 1 1 1 ∷ row 0 3 1 1 ∷ []; selected = pos 6; dropped = pos 4 }

-- two sessions on one profile
apart : replies (opening a ∷ opening b ∷ of a (ask.Push 0 (MergeFunction 1)) ∷ of b ask.Tree ∷ of b (ask.Push 0 (DropFunction 2)) ∷ of a (ask.Undo 1) ∷ of a ask.Tree ∷ of b ask.Tree ∷ [])
    ≡ Done 0 ∷ Done 0 ∷ Done 1 ∷ Tree whole ∷ Done 1 ∷ Done 2 ∷ Tree whole ∷ Tree unless_c ∷ []
apart = refl

-- the functions are numbered up to 4, since the one resource is one too
out_of_range : replies (opening a ∷ of a (ask.Push 0 (MergeFunction 5)) ∷ of a (ask.Push 0 (MergeFunction 4)) ∷ []) ≡ Done 0 ∷ Refused (FuncOut 5) ∷ Done 1 ∷ []
out_of_range = refl

falling_range : replies (opening a ∷ of a (ask.CommitRange 0 (record { start = pos 2; end = pos 1 })) ∷ []) ≡ Done 0 ∷ Refused BadRange ∷ []
falling_range = refl

-- a session is opened once under its name, and is gone once it is closed
closed : replies (opening a ∷ opening a ∷ of a ask.Close ∷ of a ask.Close ∷ []) ≡ Done 0 ∷ Refused NameTaken ∷ Closed ∷ Refused NoSession ∷ []
closed = refl

long_search : replies (opening a ∷ of a (ask.SetSearch 0 (map (λ _. 120) (range_with_len 0 257))) ∷ []) ≡ Done 0 ∷ Refused LongSearch ∷ []
long_search = refl

-- a hundred pushes, each taken away by a change of its own, and then undos until the history ends
abbrev pushes : ℕ → List (Line × Fate)
pushes n = of a (ask.Push (2 * n) (MergeFunction 0)) ∷ of a (ask.PopTo (2 * n + 1) 0) ∷ []

abbrev history : List (Line × Fate)
history = opening a ∷ flat_map pushes (range_with_len 0 100) ++ map (λ n. of a (ask.Undo (200 + n))) (range_with_len 0 100)

histories : replies history ≡ map (λ n. Done n) (range_with_len 0 300) ++ Refused NothingToUndo ∷ []
histories = refl
