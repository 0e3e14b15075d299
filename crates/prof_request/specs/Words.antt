-- The words of commands.
use Rattle.std.specs.Prelude.{ℕ, List, codes}
use Rattle.prof_spell.specs.Spelling.{Language}
use Rattle.prof_spell.specs.Pieces.{Among, words}
use Rattle.prof_request.specs.declared.request.Command.{Command}
use Rattle.prof_request.specs.declared.request.Command.TheVariants.{OpenOn, LoadOn, Close, Push, PopTo, CommitRange, PopRangesTo, SetImplementation, SetSearch, Undo, Redo, Goto, Tree, Inverted, Markers, Address, Save}
use Rattle.prof_request.specs.declared.command_word.CommandWord.{CommandWord}
use Rattle.prof_request.specs.declared.command_word.CommandWord.TheVariants as w
use Rattle.prof_request.specs.declared.command_word.TheConstants.{COMMAND_WORDS}

abbrev pub word_text : CommandWord → List ℕ
word_text w.Open = codes "open "
word_text w.Load = codes "load "
word_text w.Close = codes "close"
word_text w.Push = codes "push "
word_text w.PopTo = codes "popto "
word_text w.Range = codes "range "
word_text w.PopRangesTo = codes "poprangesto "
word_text w.Implementation = codes "implementation "
word_text w.Search = codes "search "
word_text w.Undo = codes "undo "
word_text w.Redo = codes "redo "
word_text w.Goto = codes "goto "
word_text w.Tree = codes "tree"
word_text w.Inverted = codes "inverted"
word_text w.Markers = codes "markers"
word_text w.Address = codes "address"
word_text w.Save = codes "save"

abbrev pub word_of : Command → CommandWord
word_of (OpenOn profile thread) = w.Open
word_of (LoadOn profile) = w.Load
word_of Close = w.Close
word_of (Push version transform) = w.Push
word_of (PopTo version n) = w.PopTo
word_of (CommitRange version range) = w.Range
word_of (PopRangesTo version n) = w.PopRangesTo
word_of (SetImplementation version filter) = w.Implementation
word_of (SetSearch version search) = w.Search
word_of (Undo version) = w.Undo
word_of (Redo version) = w.Redo
word_of (Goto version address) = w.Goto
word_of Tree = w.Tree
word_of Inverted = w.Inverted
word_of (Markers search) = w.Markers
word_of Address = w.Address
word_of Save = w.Save

abbrev pub command_words : Language CommandWord
command_words = words word_text (Among COMMAND_WORDS)
