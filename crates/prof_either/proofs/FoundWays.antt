-- Tables that were found in both ways, each way by itself.
use Rattle.std.proofs.Common.{◌≡◌, ℕ, Option, None, Some, refl}
use Rattle.prof_gather.specs.Taking.{IsFoundIn}
use Rattle.prof_gather.specs.declared.objects.Found.TheVariants as found
use Rattle.prof_grammar.specs.Value.{Value, Members, no_members}
use Rattle.prof_processes.specs.Tables.{IsHeld}
use Rattle.prof_processes.specs.declared.held.HeldTable.{HeldTable}
use Rattle.prof_raw.specs.declared.rule.ListFault.{ListFault}
use Rattle.prof_raw.specs.declared.rule.Rule.TheVariants as rule
use Rattle.prof_schema.specs.Gathered.{IsPlaced}

-- a member in which an object was found by this relation has it by another that follows
pub found_by : {S T : Type 0} (IsS : Members → S → Type 0) (IsT : Members → T → Type 0) (member : Option Value) (s : S) (t : T) → ((ms : Members) → IsS ms s → IsT ms t) →
    IsFoundIn IsS member (found.Object s) → IsFoundIn IsT member (found.Object t)
found_by IsS IsT None s t f h = cc
found_by IsS IsT (Some Value.null) s t f h = cc
found_by IsS IsT (Some (Value.boolean b)) s t f h = cc
found_by IsS IsT (Some (Value.number text)) s t f h = cc
found_by IsS IsT (Some (Value.string text)) s t f h = cc
found_by IsS IsT (Some (Value.array vs)) s t f h = cc
found_by IsS IsT (Some (Value.object ms)) s t f h = f ms h

-- the same where it is absent, null or no object
pub absent_by : {S T : Type 0} (IsS : Members → S → Type 0) (IsT : Members → T → Type 0) (member : Option Value) → IsFoundIn IsS member found.Absent → IsFoundIn IsT member found.Absent
absent_by IsS IsT None h = refl
absent_by IsS IsT (Some Value.null) h = cc
absent_by IsS IsT (Some (Value.boolean b)) h = cc
absent_by IsS IsT (Some (Value.number text)) h = cc
absent_by IsS IsT (Some (Value.string text)) h = cc
absent_by IsS IsT (Some (Value.array vs)) h = cc
absent_by IsS IsT (Some (Value.object ms)) h = absurd h

pub null_by : {S T : Type 0} (IsS : Members → S → Type 0) (IsT : Members → T → Type 0) (member : Option Value) → IsFoundIn IsS member found.Null → IsFoundIn IsT member found.Null
null_by IsS IsT None h = cc
null_by IsS IsT (Some Value.null) h = refl
null_by IsS IsT (Some (Value.boolean b)) h = cc
null_by IsS IsT (Some (Value.number text)) h = cc
null_by IsS IsT (Some (Value.string text)) h = cc
null_by IsS IsT (Some (Value.array vs)) h = cc
null_by IsS IsT (Some (Value.object ms)) h = absurd h

pub other_by : {S T : Type 0} (IsS : Members → S → Type 0) (IsT : Members → T → Type 0) (member : Option Value) → IsFoundIn IsS member found.Other → IsFoundIn IsT member found.Other
other_by IsS IsT None h = cc
other_by IsS IsT (Some Value.null) h = cc
other_by IsS IsT (Some (Value.boolean b)) h = refl
other_by IsS IsT (Some (Value.number text)) h = refl
other_by IsS IsT (Some (Value.string text)) h = refl
other_by IsS IsT (Some (Value.array vs)) h = refl
other_by IsS IsT (Some (Value.object ms)) h = absurd h

-- ---- what is held

abbrev pub wrong : Option ListFault
wrong = Some (record { rule = rule.WrongKind; row = None })

pub object_held : {S : Type 0} (IsS : Members → S → Type 0) (most : ℕ) (member : Option Value) (s : S) (h : HeldTable) → h.fault ≡ None → ((ms : Members) → IsS ms s → IsPlaced most ms h.table) →
    IsFoundIn IsS member (found.Object s) → IsHeld most member h
object_held IsS most None s h e f k = cc
object_held IsS most (Some Value.null) s h e f k = cc
object_held IsS most (Some (Value.boolean b)) s h e f k = cc
object_held IsS most (Some (Value.number text)) s h e f k = cc
object_held IsS most (Some (Value.string text)) s h e f k = cc
object_held IsS most (Some (Value.array vs)) s h e f k = cc
object_held IsS most (Some (Value.object ms)) s h e f k = record { fault = e; placed = f ms k }

pub absent_held : {S : Type 0} (IsS : Members → S → Type 0) (most : ℕ) (member : Option Value) (h : HeldTable) → IsHeld most None h → IsFoundIn IsS member found.Absent → IsHeld most member h
absent_held IsS most None h held k = held
absent_held IsS most (Some Value.null) h held k = cc
absent_held IsS most (Some (Value.boolean b)) h held k = cc
absent_held IsS most (Some (Value.number text)) h held k = cc
absent_held IsS most (Some (Value.string text)) h held k = cc
absent_held IsS most (Some (Value.array vs)) h held k = cc
absent_held IsS most (Some (Value.object ms)) h held k = absurd k

pub null_held : {S : Type 0} (IsS : Members → S → Type 0) (most : ℕ) (member : Option Value) (h : HeldTable) → h.fault ≡ wrong → IsPlaced most no_members h.table → IsFoundIn IsS member found.Null → IsHeld most member h
null_held IsS most None h e p k = cc
null_held IsS most (Some Value.null) h e p k = record { fault = e; placed = p }
null_held IsS most (Some (Value.boolean b)) h e p k = cc
null_held IsS most (Some (Value.number text)) h e p k = cc
null_held IsS most (Some (Value.string text)) h e p k = cc
null_held IsS most (Some (Value.array vs)) h e p k = cc
null_held IsS most (Some (Value.object ms)) h e p k = absurd k

pub other_held : {S : Type 0} (IsS : Members → S → Type 0) (most : ℕ) (member : Option Value) (h : HeldTable) → h.fault ≡ wrong → IsPlaced most no_members h.table → IsFoundIn IsS member found.Other → IsHeld most member h
other_held IsS most None h e p k = cc
other_held IsS most (Some Value.null) h e p k = cc
other_held IsS most (Some (Value.boolean b)) h e p k = record { fault = e; placed = p }
other_held IsS most (Some (Value.number text)) h e p k = record { fault = e; placed = p }
other_held IsS most (Some (Value.string text)) h e p k = record { fault = e; placed = p }
other_held IsS most (Some (Value.array vs)) h e p k = record { fault = e; placed = p }
other_held IsS most (Some (Value.object ms)) h e p k = absurd k
