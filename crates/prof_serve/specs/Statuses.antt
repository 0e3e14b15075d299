-- The statuses of replies.
use Rattle.std.specs.Prelude.{ℕ}
use Rattle.prof_machine.specs.declared.refusal.Refusal.{Refusal}
use Rattle.prof_machine.specs.declared.refusal.Refusal.TheVariants.{NoSession, NameTaken, NoProfile, NoThread, Stale, FuncOut, ResourceOut, CategoryOut, EmptyPath, LongPath, TooManyTransforms, BadRange, TooManyRanges, DepthOut, NothingToUndo, NothingToRedo, BadAddress, TooManySessions, NotSaved, BadSaved, OtherProfile, TooManyNodes, LongSearch, VersionEnd, KeeperFault, BadText}
use Rattle.prof_machine.specs.declared.refusal.Reply.{Reply}
use Rattle.prof_machine.specs.declared.refusal.Reply.TheVariants.{Done, Closed, Tree, Inverted, Markers, Address, Refused, NoMemory}

-- what isn't there is 404, what the session's state refuses 409, what breaks a rule 422, and what there is no room for 503
abbrev pub refusal_status : Refusal → ℕ
refusal_status NoSession = 404
refusal_status NameTaken = 409
refusal_status NoProfile = 404
refusal_status (NoThread threads) = 404
refusal_status (Stale version) = 409
refusal_status (FuncOut func) = 422
refusal_status (ResourceOut resource) = 422
refusal_status (CategoryOut category) = 422
refusal_status EmptyPath = 422
refusal_status (LongPath size) = 422
refusal_status TooManyTransforms = 422
refusal_status BadRange = 422
refusal_status TooManyRanges = 422
refusal_status (DepthOut depth) = 422
refusal_status NothingToUndo = 409
refusal_status NothingToRedo = 409
refusal_status (BadAddress at) = 400
refusal_status TooManySessions = 503
refusal_status NotSaved = 404
refusal_status (BadSaved at) = 409
refusal_status (OtherProfile kept here) = 409
refusal_status (TooManyNodes limit) = 422
refusal_status LongSearch = 422
refusal_status VersionEnd = 409
refusal_status KeeperFault = 503
refusal_status (BadText at) = 400

abbrev pub status_of : Reply → ℕ
status_of (Done version) = 200
status_of Closed = 200
status_of (Tree tree) = 200
status_of (Inverted tree) = 200
status_of (Markers markers) = 200
status_of (Address view) = 200
status_of (Refused refusal) = refusal_status refusal
status_of NoMemory = 507
