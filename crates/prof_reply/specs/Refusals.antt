-- The texts of refusals.
use Rattle.std.specs.Prelude.{ℕ, List, [], ◌++◌, codes, Option, Some, None}
use Rattle.std.specs.Fmt.{decimal}
use Rattle.hex.specs.Hex.{encode_lower}
use Rattle.prof_machine.specs.declared.refusal.Refusal.{Refusal}
use Rattle.prof_machine.specs.declared.refusal.Refusal.TheVariants.{NoSession, NameTaken, NoProfile, NoThread, Stale, FuncOut, ResourceOut, CategoryOut, EmptyPath, LongPath, TooManyTransforms, BadRange, TooManyRanges, DepthOut, NothingToUndo, NothingToRedo, BadAddress, TooManySessions, NotSaved, BadSaved, OtherProfile, TooManyNodes, LongSearch, VersionEnd, KeeperFault, BadText}

-- a refusal's number and name
abbrev pub refusal_name : Refusal → List ℕ
refusal_name NoSession = codes "S1 NoSession"
refusal_name NameTaken = codes "S2 NameTaken"
refusal_name NoProfile = codes "S3 NoProfile"
refusal_name (NoThread threads) = codes "S4 NoThread"
refusal_name (Stale version) = codes "S5 Stale"
refusal_name (FuncOut func) = codes "S6 FuncOut"
refusal_name (ResourceOut resource) = codes "S7 ResourceOut"
refusal_name (CategoryOut category) = codes "S8 CategoryOut"
refusal_name EmptyPath = codes "S9 EmptyPath"
refusal_name (LongPath length) = codes "S10 LongPath"
refusal_name TooManyTransforms = codes "S11 TooManyTransforms"
refusal_name BadRange = codes "S12 BadRange"
refusal_name TooManyRanges = codes "S13 TooManyRanges"
refusal_name (DepthOut depth) = codes "S14 DepthOut"
refusal_name NothingToUndo = codes "S15 NothingToUndo"
refusal_name NothingToRedo = codes "S16 NothingToRedo"
refusal_name (BadAddress at) = codes "S17 BadAddress"
refusal_name TooManySessions = codes "S18 TooManySessions"
refusal_name NotSaved = codes "S19 NotSaved"
refusal_name (BadSaved at) = codes "S20 BadSaved"
refusal_name (OtherProfile kept here) = codes "S21 OtherProfile"
refusal_name (TooManyNodes limit) = codes "S22 TooManyNodes"
refusal_name LongSearch = codes "S23 LongSearch"
refusal_name VersionEnd = codes "S24 VersionEnd"
refusal_name KeeperFault = codes "S25 KeeperFault"
refusal_name (BadText at) = codes "S26 BadText"

-- the number that its text gives: how many threads there are, the version, the number that is out, the length, the
-- depth, the place, or the limit
abbrev pub number_of : Refusal → Option ℕ
number_of (NoThread threads) = Some threads
number_of (Stale version) = Some version
number_of (FuncOut func) = Some func
number_of (ResourceOut resource) = Some resource
number_of (CategoryOut category) = Some category
number_of (LongPath length) = Some length
number_of (DepthOut depth) = Some depth
number_of (BadAddress at) = Some at
number_of (BadSaved at) = Some at
number_of (TooManyNodes limit) = Some limit
number_of (BadText at) = Some at
number_of refusal = None

abbrev pub number_text : Option ℕ → List ℕ
number_text None = []
number_text (Some number) = codes " " ++ decimal number

-- the digest that is kept and the present one, where they differ
abbrev pub digests_text : Refusal → List ℕ
digests_text (OtherProfile kept here) = codes " " ++ encode_lower kept ++ (codes " " ++ encode_lower here)
digests_text refusal = []

-- a refusal's number and name, and its value where it has one
abbrev pub refusal_text : Refusal → List ℕ
refusal_text refusal = codes "refused " ++ refusal_name refusal ++ number_text (number_of refusal) ++ digests_text refusal
