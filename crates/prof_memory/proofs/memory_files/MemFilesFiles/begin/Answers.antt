use Rattle.std.proofs.Common.{◌≡◌, ◌<◌, ◌≤◌, ℕ, List, length, Some, ap, ◌∙◌, arith, inl, inr, refl}
use Rattle.std.specs.Prelude.{Vec}
use Rattle.std.specs.declared.alloc.Global.{Global}
use Rattle.prof_io.specs.Named.{place_of}
use Rattle.prof_memory.proofs.Shelves.{bytes_at-place_of, place_there, file_there, file_lacks}
use Rattle.prof_memory.proofs.memory_files.MemFilesFiles.begin.Goals as goal

pub returns-then-self-len-clause-there : goal.returns-then-self-len-clause-there
returns-then-self-len-clause-there c = λ sure there.
    let files : List (List ℕ × Vec ℕ Global) = c.args.self.now.files.items in
    let place : c.find-self.result ≡ place_of files c.args.name.now =
    c.find-self.ensures ∙ ap (λ (l : List (List ℕ × Vec ℕ Global)). place_of l c.args.name.now) c.deref.ensures.value in
    let inside : place_of files c.args.name.now < length files = place_there files c.args.name.now there in
    absurd (omega arith)

pub returns-then-self-len-clause-listed : goal.returns-then-self-len-clause-listed
returns-then-self-len-clause-listed c =
    let files : List (List ℕ × Vec ℕ Global) = c.args.self.now.files.items in
    let place : c.find-self.result ≡ place_of files c.args.name.now =
    c.find-self.ensures ∙ ap (λ (l : List (List ℕ × Vec ℕ Global)). place_of l c.args.name.now) c.deref.ensures.value in
    let past : length files ≤ place_of files c.args.name.now = omega arith in
    (λ _. inr (file_lacks files c.args.name.now past), λ _. refl)

pub returns-clause-bytes : goal.returns-clause-bytes
returns-clause-bytes c =
    rw (c.find-self.ensures, c.deref.ensures.value) (ap (λ (l : List ℕ). Some l) (bytes_at-place_of c.args.self.now.files.items c.args.name.now))

pub returns-clause-listed : goal.returns-clause-listed
returns-clause-listed c =
    let files : List (List ℕ × Vec ℕ Global) = c.args.self.now.files.items in
    let place : c.find-self.result ≡ place_of files c.args.name.now =
    c.find-self.ensures ∙ ap (λ (l : List (List ℕ × Vec ℕ Global)). place_of l c.args.name.now) c.deref.ensures.value in
    let inside : place_of files c.args.name.now < length files = omega arith in
    (λ no. cc, elim [ inl struck ↦ c.if-strikes.ensures.listed.1 struck | inr none ↦ absurd (file_there files c.args.name.now inside none) ])
