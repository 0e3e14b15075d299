-- A written profile, by evaluation: its members in their order, a default category that isn't the first, weights in nanoseconds,
-- and a string that needs an escape. And single cells.
use Rattle.std.proofs.Common.{◌≡◌, [], ◌∷◌, ◌++◌, None, codes, ap, arith, refl}
use Rattle.std.specs.Prelude.{pos, negsuc}
use Rattle.std.proofs.lemmas.Fmt.{decimal_digit}
use Rattle.prof_grammar.specs.Value.{null, number}
use Rattle.prof_time.specs.Spelling.{scaled_text}
use Rattle.prof_raw.specs.declared.raw.Unit.TheVariants as unit
use Rattle.prof_tables.specs.Threads.{ThreadTables}
use Rattle.prof_tables.specs.Profiles.{ProfileTables}
use Rattle.prof_writer.specs.Writing.{quoted}
use Rattle.prof_write.specs.Cells.{data_value, maybe_index, resource_index, time}
use Rattle.prof_write.specs.Compact.{compact}
use Rattle.prof_write.specs.Written.{profile_value}

abbrev thread : ThreadTables
thread = record {
  shared = record {
    strings = codes "A" ∷ codes "a\"b" ∷ [];
    resources = [];
    funcs = [];
    frames = [];
    stacks = [];
    stack_frames = [];
    categories = 2;
    default = 1;
  };
  name = codes "T";
  unit = unit.Ns;
  samples = [];
  markers = record { rows = []; texts = [] };
}

abbrev profile : ProfileTables
profile = record { threads = thread ∷ []; categories = codes "Other" ∷ codes "Layout" ∷ []; default = 1 }

written_profile : compact (profile_value profile) ≡ codes "{\"meta\":{\"preprocessedProfileVersion\":0,\"categories\":[{\"name\":\"Other\",\"color\":\"blue\"},{\"name\":\"Layout\",\"color\":\"grey\"}]},\"libs\":[],\"threads\":[{\"name\":\"T\",\"stringArray\":[\"A\",\"a\\\"b\"],\"resourceTable\":{\"name\":[]},\"funcTable\":{\"name\":[],\"isJS\":[],\"relevantForJS\":[],\"resource\":[],\"fileName\":[]},\"frameTable\":{\"func\":[],\"category\":[]},\"stackTable\":{\"frame\":[],\"prefix\":[]},\"samples\":{\"stack\":[],\"time\":[],\"weightType\":\"tracing-ms\",\"weight\":[]},\"markers\":{\"phase\":[],\"name\":[],\"startTime\":[],\"endTime\":[],\"data\":[]}}]}"
written_profile = refl

no_index : maybe_index None ≡ null
no_index = refl

no_resource : resource_index None ≡ number (codes "-1")
no_resource = refl

one_and_a_half : time (pos 1500000) ≡ number (codes "1.5")
unfolding scaled_text
one_and_a_half = ap (λ digits. number (digits ++ codes ".5")) (decimal_digit 1 (omega arith))

minus_a_half : time (negsuc 499999) ≡ number (codes "-0.5")
unfolding scaled_text
minus_a_half = ap (λ digits. number (codes "-" ++ (digits ++ codes ".5"))) (decimal_digit 0 (omega arith))

no_texts : data_value [] ≡ null
no_texts = refl

one_text : compact (data_value (codes "u" ∷ [])) ≡ codes "{\"0\":\"u\"}"
one_text = ap (λ digits. codes "{" ++ (quoted digits ++ codes ":\"u\"}")) (decimal_digit 0 (omega arith))
