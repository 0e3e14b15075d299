-- The words so far are the files that are there, whose names differ.
use Rattle.std.proofs.Common.{◌≡◌, Some, true, take}
use Rattle.prof_words.specs.Files.{named_file, names_differ}
use Rattle.prof_words.specs.Numbers.{each}
use Rattle.prof_words.specs.Reading.{texts}
use Rattle.prof_words.proofs.files.files_of.Given as goal

abbrev pub invariant-loop-word : goal.invariant-loop-word
invariant-loop-word l = record {
  named : each named_file (take l.word-index (texts l.words)) ≡ Some l.files;
  differ : names_differ l.files ≡ true;
}
