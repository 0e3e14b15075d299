-- The summary of a profile.
use Rattle.std.specs.Prelude.{ℕ, List, ◌++◌, length, codes}
use Rattle.std.specs.Fmt.{decimal}
use Rattle.std.specs.List.{enumerate_from, flat_map}
use Rattle.hex.specs.Hex.{encode_lower}
use Rattle.prof_read.specs.declared.read.Form.{Form}
use Rattle.prof_read.specs.declared.read.Form.TheVariants.{Processed, Gecko}
use Rattle.prof_tables.specs.Profiles.{ProfileTables}
use Rattle.prof_tables.specs.Threads.{ThreadTables}
use Rattle.prof_writer.specs.Writing.{quoted}
use Rattle.prof_desk.specs.Lines.{thread_head}
use Rattle.prof_reply.specs.Lines.{line}

abbrev pub form_text : Form → List ℕ
form_text Processed = codes "processed"
form_text Gecko = codes "gecko"

-- a thread's line: its number, the numbers of its rows, and its name as a JSON string
abbrev pub thread_line : ℕ × ThreadTables → List ℕ
thread_line t =
    thread_head t.0 (length t.1.shared.funcs) (length t.1.shared.stacks) (length t.1.samples) (length t.1.markers.rows) ++ (quoted t.1.name ++ codes "\n")

-- the form, the number of threads and the digest, and a line for each thread
abbrev pub summary_text : ProfileTables → List ℕ → Form → List ℕ
summary_text p digest form =
    line (codes "ok " ++ form_text form ++ codes " threads " ++ decimal (length p.threads) ++ codes " digest " ++ encode_lower digest)
    ++ flat_map thread_line (enumerate_from 0 p.threads)
