-- Worked lines, by evaluation.
use Rattle.std.proofs.Common.{◌≡◌, true, [], ◌∷◌, refl}
use Rattle.std.specs.Prelude.{codes, pos, negsuc}
use Rattle.std.specs.Fmt.{digits}
use Rattle.prof_path.specs.declared.transform.Implementation.TheVariants.{Js}
use Rattle.prof_path.specs.declared.transform.Transform.TheVariants.{FocusSubtree}
use Rattle.prof_request.specs.declared.request.Command.{Command}
use Rattle.prof_request.specs.declared.request.Command.TheVariants.{OpenOn, LoadOn, Close, Push, PopTo, CommitRange, PopRangesTo, SetImplementation, SetSearch, Undo, Redo, Goto, Tree, Inverted, Markers, Address, Save}
use Rattle.prof_request.specs.declared.request.Request.{Request}
use Rattle.prof_request.specs.Requests.{request_text}

abbrev of_a : Command → Request
of_a command = record { session = codes "a"; command = command }

pub an_open : request_text (of_a (OpenOn (codes "main") 0)) ≡ codes "a open main 0"
unfolding digits
an_open = refl

pub a_load : request_text (of_a (LoadOn (codes "main"))) ≡ codes "a load main"
a_load = refl

pub a_push : request_text (of_a (Push 0 (FocusSubtree Js (0 ∷ 1 ∷ []) true))) ≡ codes "a push 0 f-js-0.1-i"
unfolding digits
a_push = refl

pub a_pop : request_text (of_a (PopTo 2 1)) ≡ codes "a popto 2 1"
unfolding digits
a_pop = refl

pub a_range : request_text (of_a (CommitRange 3 (record { start = negsuc 0; end = pos 5 }))) ≡ codes "a range 3 -1 5"
unfolding digits
a_range = refl

pub a_filter : request_text (of_a (SetImplementation 0 Js)) ≡ codes "a implementation 0 js"
unfolding digits
a_filter = refl

pub a_search : request_text (of_a (SetSearch 4 (codes "x y"))) ≡ codes "a search 4 x y"
unfolding digits
a_search = refl

pub no_search : request_text (of_a (SetSearch 4 [])) ≡ codes "a search 4"
unfolding digits
no_search = refl

pub all_markers : request_text (of_a (Markers [])) ≡ codes "a markers"
all_markers = refl

pub a_close : request_text (of_a Close) ≡ codes "a close"
a_close = refl

pub a_pop_of_ranges : request_text (of_a (PopRangesTo 2 0)) ≡ codes "a poprangesto 2 0"
unfolding digits
a_pop_of_ranges = refl

pub an_undo : request_text (of_a (Undo 3)) ≡ codes "a undo 3"
unfolding digits
an_undo = refl

pub a_redo : request_text (of_a (Redo 4)) ≡ codes "a redo 4"
unfolding digits
a_redo = refl

pub a_goto : request_text (of_a (Goto 1 (codes "thread=0"))) ≡ codes "a goto 1 thread=0"
unfolding digits
a_goto = refl

pub some_markers : request_text (of_a (Markers (codes "load"))) ≡ codes "a markers load"
some_markers = refl

pub an_inverted : request_text (of_a Inverted) ≡ codes "a inverted"
an_inverted = refl

pub an_address : request_text (of_a Address) ≡ codes "a address"
an_address = refl

pub a_save : request_text (of_a Save) ≡ codes "a save"
a_save = refl

pub a_tree : request_text (of_a Tree) ≡ codes "a tree"
a_tree = refl
