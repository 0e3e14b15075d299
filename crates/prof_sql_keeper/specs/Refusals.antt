-- What a keeper answers of an error of its database.
use Rattle.sqlite.specs.declared.error.ErrorCode.TheVariants.{OutOfMemory}
use Rattle.sqlite.specs.declared.error.Error.{Error}
use Rattle.sqlite.specs.declared.error.Error.TheVariants.{SqliteFailure}
use Rattle.prof_io.specs.declared.outside.KeepRefusal.{KeepRefusal}
use Rattle.prof_io.specs.declared.outside.KeepRefusal.TheVariants.{Failed, NoMemory}

-- a refused statement is a fault, unless memory ran out
abbrev pub refusal_of : Error → KeepRefusal
refusal_of (SqliteFailure OutOfMemory) = NoMemory
refusal_of _ = Failed
