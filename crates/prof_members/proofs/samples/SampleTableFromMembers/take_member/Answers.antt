use Rattle.std.proofs.Common.{◌≡◌, ℕ, List, Option, Some, refl, ap, ◌∙◌}
use Rattle.std.specs.Prelude.{codes}
use Rattle.prof_grammar.specs.Event as told
use Rattle.prof_members.specs.SampleNames.{sample_name}
use Rattle.prof_members.proofs.SampleMembers.{samples-more, samples-stay}
use Rattle.prof_members.proofs.samples.SampleTableFromMembers.take_member.Goals as goal

named : (last : Option told.Event) (n m : List ℕ) → last ≡ Some (told.name n) → n ≡ m → last ≡ Some (told.name m)
named last n m l e = l ∙ ap (λ (t : List ℕ). Some (told.name t)) e

pub returns-in_ok-self-in-Some-Stack-clause-member : goal.returns-in_ok-self-in-Some-Stack-clause-member
returns-in_ok-self-in-Some-Stack-clause-member g c =
    let r = c.in_ok-self-in-Some-Stack.ensures.column in
    record {
      name = codes "stack";
      last = named c.args.feed.now.last c.name.result.now (codes "stack") c.name.ensures (c.in-Some-Stack.ensures.named ∙ ap sample_name c.in-Some-Stack.field-0-is);
      value = r.0;
      reads = r.1;
      taken = samples-more (codes "stack") r.0 c.args.self.now _ r.2 refl refl refl refl refl refl;
    }

pub returns-in_ok-self-in-Some-Time-clause-member : goal.returns-in_ok-self-in-Some-Time-clause-member
returns-in_ok-self-in-Some-Time-clause-member g c =
    let r = c.in_ok-self-in-Some-Time.ensures.column in
    record {
      name = codes "time";
      last = named c.args.feed.now.last c.name.result.now (codes "time") c.name.ensures (c.in-Some-Time.ensures.named ∙ ap sample_name c.in-Some-Time.field-0-is);
      value = r.0;
      reads = r.1;
      taken = samples-more (codes "time") r.0 c.args.self.now _ refl r.2 refl refl refl refl refl;
    }

pub returns-in_ok-self-in-Some-TimeDeltas-clause-member : goal.returns-in_ok-self-in-Some-TimeDeltas-clause-member
returns-in_ok-self-in-Some-TimeDeltas-clause-member g c =
    let r = c.in_ok-self-in-Some-TimeDeltas.ensures.column in
    record {
      name = codes "timeDeltas";
      last = named c.args.feed.now.last c.name.result.now (codes "timeDeltas") c.name.ensures (c.in-Some-TimeDeltas.ensures.named ∙ ap sample_name c.in-Some-TimeDeltas.field-0-is);
      value = r.0;
      reads = r.1;
      taken = samples-more (codes "timeDeltas") r.0 c.args.self.now _ refl refl r.2 refl refl refl refl;
    }

pub returns-in_ok-self-in-Some-WeightType-clause-member : goal.returns-in_ok-self-in-Some-WeightType-clause-member
returns-in_ok-self-in-Some-WeightType-clause-member g c =
    let r = c.in_ok-self-in-Some-WeightType.ensures.unit in
    record {
      name = codes "weightType";
      last = named c.args.feed.now.last c.name.result.now (codes "weightType") c.name.ensures (c.in-Some-WeightType.ensures.named ∙ ap sample_name c.in-Some-WeightType.field-0-is);
      value = r.0;
      reads = r.1;
      taken = samples-more (codes "weightType") r.0 c.args.self.now _ refl refl refl r.2 refl refl refl;
    }

pub returns-in_ok-self-in-Some-Weight-clause-member : goal.returns-in_ok-self-in-Some-Weight-clause-member
returns-in_ok-self-in-Some-Weight-clause-member g c =
    let r = c.in_ok-self-in-Some-Weight.ensures.weights in
    record {
      name = codes "weight";
      last = named c.args.feed.now.last c.name.result.now (codes "weight") c.name.ensures (c.in-Some-Weight.ensures.named ∙ ap sample_name c.in-Some-Weight.field-0-is);
      value = r.0;
      reads = r.1;
      taken = samples-more (codes "weight") r.0 c.args.self.now _ refl refl refl refl r.2.counts r.2.times refl;
    }

pub returns-in_ok-self-in-Some-Length-clause-member : goal.returns-in_ok-self-in-Some-Length-clause-member
returns-in_ok-self-in-Some-Length-clause-member g c =
    let r = c.in_ok-self-in-Some-Length.ensures.length in
    record {
      name = codes "length";
      last = named c.args.feed.now.last c.name.result.now (codes "length") c.name.ensures (c.in-Some-Length.ensures.named ∙ ap sample_name c.in-Some-Length.field-0-is);
      value = r.0;
      reads = r.1;
      taken = samples-more (codes "length") r.0 c.args.self.now _ refl refl refl refl refl refl r.2;
    }

pub returns-in_ok-skip_member-in-None-clause-member : goal.returns-in_ok-skip_member-in-None-clause-member
returns-in_ok-skip_member-in-None-clause-member g c =
    let r = c.in_ok-skip_member-in-None.ensures.value in
    record {
      name = c.name.result.now;
      last = c.name.ensures;
      value = r.0;
      reads = r.1;
      taken = samples-stay c.name.result.now r.0 c.args.self.now c.in-None.ensures.other;
    }
