-- Words, and what they ask for.
use Rattle.std.proofs.Common.{◌≡◌, [], ◌∷◌, None, Some, codes, refl}
use Rattle.prof_words.specs.Numbers.{threads_of}
use Rattle.prof_words.specs.Words.{order_of}
use Rattle.prof_words.specs.declared.order.Order.TheVariants.{Tree, Markers, Script, Serve, Check, Convert, Gen, Demo, Flame, Chart, Alloc, Merge}
use Rattle.prof_words.specs.declared.order.Strategy.TheVariants.{AtSite}

tree_p : order_of (codes "tree" ∷ codes "p" ∷ []) ≡ Some (Tree (codes "p"))
tree_p = refl

tree_alone : order_of (codes "tree" ∷ []) ≡ None
tree_alone = refl

tree_dash : order_of (codes "tree" ∷ codes "-x" ∷ []) ≡ None
tree_dash = refl

markers_p : order_of (codes "markers" ∷ codes "p" ∷ codes "0" ∷ []) ≡ Some (Markers (codes "p") 0 [])
markers_p = refl

markers_search : order_of (codes "markers" ∷ codes "p" ∷ codes "12" ∷ codes "A/" ∷ []) ≡ Some (Markers (codes "p") 12 (codes "A/"))
markers_search = refl

script_p : order_of (codes "script" ∷ codes "p" ∷ codes "s" ∷ []) ≡ Some (Script (codes "p") (codes "s"))
script_p = refl

serve_two : order_of (codes "serve" ∷ codes "65535" ∷ codes "1000000" ∷ codes "s" ∷ codes "a=b=c" ∷ codes "d=e" ∷ [])
    ≡ Some (Serve 65535 1000000 (codes "s") ((codes "a", codes "b=c") ∷ (codes "d", codes "e") ∷ []))
serve_two = refl

serve_same : order_of (codes "serve" ∷ codes "1" ∷ codes "1" ∷ codes "s" ∷ codes "a=b" ∷ codes "a=c" ∷ []) ≡ None
serve_same = refl

serve_port : order_of (codes "serve" ∷ codes "65536" ∷ codes "1" ∷ codes "s" ∷ codes "a=b" ∷ []) ≡ None
serve_port = refl

serve_none : order_of (codes "serve" ∷ codes "1" ∷ codes "0" ∷ codes "s" ∷ codes "a=b" ∷ []) ≡ None
serve_none = refl

serve_nothing : order_of (codes "serve" ∷ codes "1" ∷ codes "1" ∷ codes "s" ∷ []) ≡ None
serve_nothing = refl

serve_nameless : order_of (codes "serve" ∷ codes "1" ∷ codes "1" ∷ codes "s" ∷ codes "=b" ∷ []) ≡ None
serve_nameless = refl

serve_fileless : order_of (codes "serve" ∷ codes "1" ∷ codes "1" ∷ codes "s" ∷ codes "a=" ∷ []) ≡ None
serve_fileless = refl

serve_upper : order_of (codes "serve" ∷ codes "1" ∷ codes "1" ∷ codes "s" ∷ codes "A=b" ∷ []) ≡ None
serve_upper = refl

check_p : order_of (codes "check" ∷ codes "p" ∷ []) ≡ Some (Check (codes "p"))
check_p = refl

convert_p : order_of (codes "convert" ∷ codes "p" ∷ []) ≡ Some (Convert (codes "p"))
convert_p = refl

gen_last : order_of (codes "gen" ∷ codes "4294967295" ∷ []) ≡ Some (Gen 4294967295)
gen_last = refl

gen_past : order_of (codes "gen" ∷ codes "4294967296" ∷ []) ≡ None
gen_past = refl

gen_zero : order_of (codes "gen" ∷ codes "01" ∷ []) ≡ None
gen_zero = refl

gen_sign : order_of (codes "gen" ∷ codes "+1" ∷ []) ≡ None
gen_sign = refl

demo_nought : order_of (codes "demo" ∷ codes "0" ∷ []) ≡ Some (Demo 0)
demo_nought = refl

flame_p : order_of (codes "flame" ∷ codes "p" ∷ codes "thread=0" ∷ []) ≡ Some (Flame (codes "p") (codes "thread=0"))
flame_p = refl

chart_p : order_of (codes "chart" ∷ codes "p" ∷ codes "v" ∷ []) ≡ Some (Chart (codes "p") (codes "v"))
chart_p = refl

alloc_p : order_of (codes "alloc" ∷ codes "p" ∷ codes "atsite" ∷ codes "v" ∷ []) ≡ Some (Alloc (codes "p") AtSite (codes "v"))
alloc_p = refl

alloc_other : order_of (codes "alloc" ∷ codes "p" ∷ codes "atSite" ∷ codes "v" ∷ []) ≡ None
alloc_other = refl

merge_three : order_of (codes "merge" ∷ codes "p" ∷ codes "0.12.3" ∷ codes "v" ∷ []) ≡ Some (Merge (codes "p") (0 ∷ 12 ∷ 3 ∷ []) (codes "v"))
merge_three = refl

merge_gap : threads_of (codes "0..3") ≡ None
merge_gap = refl

merge_past : threads_of (codes "4294967296") ≡ None
merge_past = refl

help : order_of (codes "help" ∷ codes "tree" ∷ []) ≡ None
help = refl

nothing : order_of [] ≡ None
nothing = refl
