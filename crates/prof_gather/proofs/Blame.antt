-- Who is to blame for a fault.
use Rattle.std.proofs.Common.{◌≡◌, ◌≢◌, ℕ, ◌≤◌, refl, sym, subst, ◌∙◌, arith}
use Rattle.std.specs.Prelude.{Option, Some, None, IfSome}
use Rattle.prof_io.specs.Causes.{Rose}
use Rattle.prof_token.specs.declared.fault.JsonFault.{JsonFault}
use Rattle.prof_token.specs.declared.fault.JsonFault.TheVariants as fault
use Rattle.prof_gather.specs.Feeding.{Told, Refuses}
use Rattle.prof_gather.specs.Keeping.{Blames}
use Rattle.prof_gather.specs.Refusals.{refusal_of}

rose_later : (before then_ now : ℕ) → before ≤ then_ → Rose then_ now → Rose before now
rose_later before then_ now h r = omega arith

rose_on : (before then_ now : ℕ) → then_ ≤ now → Rose before then_ → Rose before now
rose_on before then_ now h r = omega arith

-- a fault that was met before
blames_again : (f : JsonFault) (before then_ now : ℕ) (unsure : Type 0) → then_ ≤ now → (f ≢ fault.ReadFault → now ≡ then_) → Blames (Some f) before then_ unsure → Blames (Some f) before now unsure
blames_again fault.ReadFault before then_ now unsure h s b = (rose_on before then_ now h b.0, b.1)
blames_again fault.NoMemory before then_ now unsure h s b = s (λ e. cc) ∙ b
blames_again (fault.NotJson at) before then_ now unsure h s b = s (λ e. cc) ∙ b
blames_again (fault.TooDeep at) before then_ now unsure h s b = s (λ e. cc) ∙ b
blames_again fault.TooLong before then_ now unsure h s b = s (λ e. cc) ∙ b

-- a fault that was met now
blames_now : (f : JsonFault) (before then_ now : ℕ) (unsure : Type 0) → before ≤ then_ → (f ≢ fault.ReadFault → now ≡ then_) → then_ ≡ before → (f ≡ fault.ReadFault → Rose then_ now) → (f ≡ fault.ReadFault → unsure) → Blames (Some f) before now unsure
blames_now fault.ReadFault before then_ now unsure h s b r u = (rose_later before then_ now h (r refl), u refl)
blames_now fault.NoMemory before then_ now unsure h s b r u = s (λ e. cc) ∙ b
blames_now (fault.NotJson at) before then_ now unsure h s b r u = s (λ e. cc) ∙ b
blames_now (fault.TooDeep at) before then_ now unsure h s b r u = s (λ e. cc) ∙ b
blames_now fault.TooLong before then_ now unsure h s b r u = s (λ e. cc) ∙ b

pub blames : (o : Option JsonFault) (f : JsonFault) (before then_ now : ℕ) (unsure : Type 0) → before ≤ then_ → then_ ≤ now → Blames o before then_ unsure
    → (f ≢ fault.ReadFault → now ≡ then_) → IfSome o (λ g. f ≡ g) → (o ≡ None → f ≡ fault.ReadFault → Rose then_ now) → (o ≡ None → f ≡ fault.ReadFault → unsure) → Blames (Some f) before now unsure
blames None f before then_ now unsure h k b s same r u = blames_now f before then_ now unsure h s b (r refl) (u refl)
blames (Some g) f before then_ now unsure h k b s same r u = blames_again f before then_ now unsure k s (subst (λ x. Blames (Some x) before then_ unsure) (sym same) b)

-- a fault as a refusal
pub refuses : (f : JsonFault) (t : Told) → t.fault ≡ Some f → Refuses (refusal_of f) t
refuses fault.ReadFault t e = e
refuses fault.NoMemory t e = tt
refuses (fault.NotJson at) t e = (e, tt)
refuses (fault.TooDeep at) t e = (e, tt)
refuses fault.TooLong t e = (e, tt)
