-- Items one behind another: what a reading of them comes to.
use Rattle.std.proofs.Common.{◌≡◌, ℕ, ◌+◌, Bool, true, false, List, [], ◌∷◌, ◌++◌, refl, sym, subst, ap, ◌∙◌, inl, inr, append_assoc, append-nil}
use Rattle.std.specs.Prelude.{⊤, Some, ◌⊎◌, ◌≢◌, Err}
use Rattle.std.proofs.lemmas.List.{append_cancel_left}
use Rattle.prof_spell.specs.Spelling.{first, Apart, Begins, IsStuck, IsTaken, Reads, Splits}
use Rattle.prof_spell.specs.declared.cursor.Stop.{Stop}
use Rattle.prof_spell.specs.declared.cursor.Stop.TheVariants.{Fault, NoMemory}
use Rattle.prof_spell.specs.Chains.{Chain, chain_text, after, MayCome, IsWhole, chains}
use Rattle.prof_spell.proofs.Lists.{first_append, apart_first}

-- An item has a first byte, which goes on with the text before it; where the text may go on, so may its last item; an
-- item ends where another comes; and from each state the text can come to an end.
pub record Linked {S A : Type 0} (C : Chain S A) : Type 0 where
  pub splits : (s : S) → Splits (C.items s)
  pub some : (s : S) (a : A) → (C.items s).Fits a → (b : ℕ) × (t : List ℕ) × ((C.items s).text a ≡ b ∷ t) × (C.goes s b ≡ true)
  pub apart : (s : S) (a : A) (b : ℕ) → (C.items s).Fits a → C.goes (C.next s a) b ≡ false → (C.items s).goes a b ≡ false
  pub follows : (s : S) (a c : A) (m : List ℕ) → (C.items s).Fits a → (C.items (C.next s a)).Fits c → Apart ((C.items s).goes a) ((C.items (C.next s a)).text c ++ m)
  pub on : (s : S) → (xs : List A) × IsWhole C s xs

-- what is left doesn't go on with the last item
abbrev pub LastApart : {S A : Type 0} → Chain S A → S → List A → List ℕ → Type 0
LastApart C s [] left = ⊤
LastApart C s (a ∷ []) left = Apart ((C.items s).goes a) left
LastApart C s (a ∷ c ∷ xs) left = LastApart C (C.next s a) (c ∷ xs) left

-- These items were read, and they lead to this state.
pub record Came {S A : Type 0} (C : Chain S A) (begin : S) (bytes : List ℕ) (done : List A) (s : S) (left : List ℕ) : Type 0 where
  pub each : MayCome C begin done
  pub state : after C begin done ≡ s
  pub split : bytes ≡ chain_text C begin done ++ left
  pub apart : LastApart C begin done left

pub came_none : {S A : Type 0} (C : Chain S A) (s : S) (bytes : List ℕ) → Came C s bytes [] s bytes
came_none C s bytes = record { each = tt; state = refl; split = refl; apart = tt }

pub chain_text-append : {S A : Type 0} (C : Chain S A) (s : S) (xs cs : List A) → chain_text C s (xs ++ cs) ≡ chain_text C s xs ++ chain_text C (after C s xs) cs
chain_text-append C s [] cs = refl
chain_text-append C s (a ∷ xs) cs = ap (λ t. (C.items s).text a ++ t) (chain_text-append C (C.next s a) xs cs) ∙ sym (append_assoc ((C.items s).text a) (chain_text C (C.next s a) xs) (chain_text C (after C (C.next s a) xs) cs))

pub after-append : {S A : Type 0} (C : Chain S A) (s : S) (xs cs : List A) → after C s (xs ++ cs) ≡ after C (after C s xs) cs
after-append C s [] cs = refl
after-append C s (a ∷ xs) cs = after-append C (C.next s a) xs cs

pub each_append : {S A : Type 0} (C : Chain S A) (s : S) (xs cs : List A) → MayCome C s xs → MayCome C (after C s xs) cs → MayCome C s (xs ++ cs)
each_append C s [] cs h k = k
each_append C s (a ∷ xs) cs h k = (h.0, each_append C (C.next s a) xs cs h.1 k)

last_append : {S A : Type 0} (C : Chain S A) (s : S) (xs : List A) (a : A) (left : List ℕ) → Apart ((C.items (after C s xs)).goes a) left → LastApart C s (xs ++ a ∷ []) left
last_append C s [] a left h = h
last_append C s (c ∷ []) a left h = h
last_append C s (c ∷ d ∷ xs) a left h = last_append C (C.next s c) (d ∷ xs) a left h

whole_append : {S A : Type 0} (C : Chain S A) (s : S) (xs cs : List A) → MayCome C s xs → IsWhole C (after C s xs) cs → IsWhole C s (xs ++ cs)
whole_append C s xs cs h k = record { each = each_append C s xs cs h k.each; ends = ap C.ends (after-append C s xs cs) ∙ k.ends }

-- one more item was read
pub came_more : {S A : Type 0} (C : Chain S A) (begin : S) (bytes : List ℕ) (done : List A) (s : S) (mid left : List ℕ) (a : A)
    → Came C begin bytes done s mid → IsTaken (C.items s) mid a left → Came C begin bytes (done ++ a ∷ []) (C.next s a) left
came_more {S} {A} C begin bytes done s mid left a came taken = record {
  each = each_append C begin done (a ∷ []) came.each (subst (λ (r : S). (C.items r).Fits a) (sym came.state) taken.fits, tt);
  state = after-append C begin done (a ∷ []) ∙ ap (λ r. C.next r a) came.state;
  split = came.split ∙ ap (λ t. chain_text C begin done ++ t) taken.split ∙ sym (append_assoc (chain_text C begin done) ((C.items s).text a) left)
      ∙ ap (λ t. t ++ left) (sym text);
  apart = last_append C begin done a left (subst (λ (r : S). Apart ((C.items r).goes a) left) (sym came.state) taken.apart);
}
  where
    text : chain_text C begin (done ++ a ∷ []) ≡ chain_text C begin done ++ (C.items s).text a
    text = chain_text-append C begin done (a ∷ []) ∙ ap (λ t. chain_text C begin done ++ t) (append-nil ((C.items (after C begin done)).text a) ∙ ap (λ r. (C.items r).text a) came.state)

apart_less : (p q : ℕ → Bool) (m : List ℕ) → ((b : ℕ) → q b ≡ false → p b ≡ false) → Apart q m → Apart p m
apart_less p q [] f a = tt
apart_less p q (b ∷ m) f a = f b a

-- behind an item, what is behind it is apart from it
behind_item : {S A : Type 0} (C : Chain S A) (s : S) (a : A) (xs : List A) (m : List ℕ) → Linked C → (C.items s).Fits a → MayCome C (C.next s a) xs → Apart (C.goes (after C (C.next s a) xs)) m → Apart ((C.items s).goes a) (chain_text C (C.next s a) xs ++ m)
behind_item C s a [] m linked f each h = apart_less ((C.items s).goes a) (C.goes (C.next s a)) m (λ b g. linked.apart s a b f g) h
behind_item C s a (c ∷ xs) m linked f each h =
    subst (λ t. Apart ((C.items s).goes a) t) (sym (append_assoc ((C.items (C.next s a)).text c) (chain_text C (C.next (C.next s a) c) xs) m))
    (linked.follows s a c (chain_text C (C.next (C.next s a) c) xs ++ m) f each.0)

behind_done : {S A : Type 0} (C : Chain S A) (s : S) (a : A) (xs : List A) (r left : List ℕ) → Linked C → (C.items s).Fits a → MayCome C (C.next s a) xs → LastApart C s (a ∷ xs) left → first r ≡ first left → Apart ((C.items s).goes a) (chain_text C (C.next s a) xs ++ r)
behind_done C s a [] r left linked f each h look = apart_first ((C.items s).goes a) r left look h
behind_done C s a (c ∷ xs) r left linked f each h look =
    subst (λ t. Apart ((C.items s).goes a) t) (sym (append_assoc ((C.items (C.next s a)).text c) (chain_text C (C.next (C.next s a) c) xs) r))
    (linked.follows s a c (chain_text C (C.next (C.next s a) c) xs ++ r) f each.0)

last_rest : {S A : Type 0} (C : Chain S A) (s : S) (a : A) (xs : List A) (left : List ℕ) → LastApart C s (a ∷ xs) left → LastApart C (C.next s a) xs left
last_rest C s a [] left h = tt
last_rest C s a (c ∷ xs) left h = h

not_goes : (p : ℕ → Bool) (b : ℕ) (t m : List ℕ) → p b ≡ true → Apart p m → m ≡ b ∷ t → ⊥
not_goes p b t [] g a e = cc
not_goes p b t (c ∷ m) g a e = let f : c ≡ b = cc in let h : p b ≡ false = rw f at a in cc

-- Items whose text begins with that of the items that were read begin with these items.
peeled : {S A : Type 0} (C : Chain S A) (s : S) (vs done : List A) (m r left : List ℕ) → Linked C → IsWhole C s vs → MayCome C s done → LastApart C s done left → first r ≡ first left → Apart (C.goes (after C s vs)) m → chain_text C s vs ++ m ≡ chain_text C s done ++ r
    → (ws : List A) × IsWhole C (after C s done) ws × (after C (after C s done) ws ≡ after C s vs) × (chain_text C (after C s done) ws ++ m ≡ r) × (vs ≡ done ++ ws)
peeled C s vs [] m r left linked whole each last look ap-m e = (vs, whole, refl, e, refl)
peeled C s [] (d ∷ done) m r left linked whole each last look ap-m e =
    let d-first = linked.some s d each.0 in
    let f : m ≡ d-first.0 ∷ (d-first.1 ++ chain_text C (C.next s d) done ++ r) =
    e ∙ append_assoc ((C.items s).text d) (chain_text C (C.next s d) done) r ∙ ap (λ t. t ++ (chain_text C (C.next s d) done ++ r)) d-first.2
    ∙ ap (λ t. d-first.0 ∷ t) (sym (append_assoc d-first.1 (chain_text C (C.next s d) done) r)) in
    absurd (not_goes (C.goes s) d-first.0 (d-first.1 ++ chain_text C (C.next s d) done ++ r) m d-first.3 ap-m f)
peeled {S} {A} C s (v ∷ vs) (d ∷ done) m r left linked whole each last look ap-m e =
    let f : (C.items s).text v ++ (chain_text C (C.next s v) vs ++ m) ≡ (C.items s).text d ++ (chain_text C (C.next s d) done ++ r) =
    sym (append_assoc ((C.items s).text v) (chain_text C (C.next s v) vs) m) ∙ e ∙ append_assoc ((C.items s).text d) (chain_text C (C.next s d) done) r in
    let same : v ≡ d = (linked.splits s).same v d (chain_text C (C.next s v) vs ++ m) (chain_text C (C.next s d) done ++ r) whole.each.0 each.0
    (behind_item C s v vs m linked whole.each.0 whole.each.1 ap-m)
    (behind_done C s d done r left linked each.0 each.1 last look) f in
    let g : chain_text C (C.next s v) vs ++ m ≡ chain_text C (C.next s d) done ++ r =
    append_cancel_left ((C.items s).text d) (chain_text C (C.next s v) vs ++ m) (chain_text C (C.next s d) done ++ r) (ap (λ u. (C.items s).text u ++ (chain_text C (C.next s v) vs ++ m)) (sym same) ∙ f) in
    let at : (q : S) → C.next s v ≡ q → IsWhole C q vs × (after C q vs ≡ after C (C.next s v) vs) × (chain_text C q vs ≡ chain_text C (C.next s v) vs) =
    λ q k. (subst (λ (z : S). IsWhole C z vs) k (record { each = whole.each.1; ends = whole.ends }), ap (λ z. after C z vs) (sym k), ap (λ z. chain_text C z vs) (sym k)) in
    let h = at (C.next s d) (ap (λ u. C.next s u) same) in
    let k = peeled C (C.next s d) vs done m r left linked h.0 each.1 (last_rest C s d done left last) look
    (subst (λ (z : S). Apart (C.goes z) m) (sym h.1) ap-m) (ap (λ t. t ++ m) h.2 ∙ g) in
    let l : vs ≡ done ++ k.0 = k.4 in
    (k.0, k.1, k.2 ∙ h.1, k.3, ap (λ u. u ∷ vs) same ∙ ap (λ us. d ∷ us) l)

-- Where the next item is stuck and the text can't end there, or a byte that goes on with it comes, so is the whole.
pub stuck_item : {S A : Type 0} (C : Chain S A) (begin s : S) (bytes mid left : List ℕ) (done : List A) → Linked C
    → Came C begin bytes done s mid → IsStuck (C.items s) mid left → (C.ends s ≡ false) ⊎ ((b : ℕ) × (first mid ≡ Some b) × (C.goes s b ≡ true))
    → IsStuck (chains C begin) bytes left
stuck_item {S} {A} C begin s bytes mid left done linked came stuck why = record {
  front = chain_text C begin done ++ stuck.front;
  split = came.split ∙ ap (λ t. chain_text C begin done ++ t) stuck.split ∙ sym (append_assoc (chain_text C begin done) stuck.front left);
  begins = begins;
  none = λ vs m seen whole am look e.
      let look2 : first (stuck.front ++ seen) ≡ first mid = first_append stuck.front seen left look ∙ ap first (sym stuck.split) in
      let k = peeled C begin vs done m (stuck.front ++ seen) mid linked whole came.each came.apart look2 am (e ∙ append_assoc (chain_text C begin done) stuck.front seen) in
      refuted k.0 m seen (subst (λ (z : S). IsWhole C z k.0) came.state k.1) (subst (λ (z : S). Apart (C.goes (after C z k.0)) m) came.state (subst (λ (z : S). Apart (C.goes z) m) (sym k.2) am)) look look2
      (ap (λ z. chain_text C z k.0 ++ m) (sym came.state) ∙ k.3);
}
  where
    a : A
    a = stuck.begins.0

    on : (xs : List A) × IsWhole C (C.next s a) xs
    on = linked.on (C.next s a)

    whole : IsWhole C begin (done ++ a ∷ on.0)
    whole = whole_append C begin done (a ∷ on.0) came.each (subst (λ (z : S). IsWhole C z (a ∷ on.0)) (sym came.state) (record { each = (stuck.begins.1, on.1.each); ends = on.1.ends }))

    begins : Begins (chains C begin) (chain_text C begin done ++ stuck.front)
    begins = (
      done ++ a ∷ on.0,
      whole,
      (
        stuck.begins.2.0 ++ chain_text C (C.next s a) on.0,
        chain_text-append C begin done (a ∷ on.0) ∙ ap (λ z. chain_text C begin done ++ chain_text C z (a ∷ on.0)) came.state
            ∙ ap (λ t. chain_text C begin done ++ (t ++ chain_text C (C.next s a) on.0)) stuck.begins.2.1
            ∙ ap (λ t. chain_text C begin done ++ t) (append_assoc stuck.front stuck.begins.2.0 (chain_text C (C.next s a) on.0))
            ∙ sym (append_assoc (chain_text C begin done) stuck.front (stuck.begins.2.0 ++ chain_text C (C.next s a) on.0)),
      ),
    )

    ended : (C.ends s ≡ false) ⊎ ((b : ℕ) × (first mid ≡ Some b) × (C.goes s b ≡ true)) → (m r : List ℕ) → C.ends s ≡ true → Apart (C.goes s) m → first r ≡ first mid → m ≡ r → ⊥
    ended (inl no-end) m r end am look e = cc
    ended (inr goes) [] r end am look e = let f : first [] ≡ Some goes.0 = ap first e ∙ look ∙ goes.1 in cc
    ended (inr goes) (b ∷ m) r end am look e =
        let f : Some b ≡ Some goes.0 = ap first e ∙ look ∙ goes.1 in
        let g : b ≡ goes.0 = cc in
        let h : C.goes s goes.0 ≡ false = rw g at am in
        let k = goes.2 in
        cc

    refuted : (ws : List A) (m seen : List ℕ) → IsWhole C s ws → Apart (C.goes (after C s ws)) m → first seen ≡ first left → first (stuck.front ++ seen) ≡ first mid → chain_text C s ws ++ m ≡ stuck.front ++ seen → ⊥
    refuted [] m seen w am look look2 e = ended why m (stuck.front ++ seen) w.ends am look2 e
    refuted (v ∷ ws) m seen w am look look2 e =
        stuck.none v (chain_text C (C.next s v) ws ++ m) seen w.each.0 (behind_item C s v ws m linked w.each.0 w.each.1 am) look
        (sym (append_assoc ((C.items s).text v) (chain_text C (C.next s v) ws) m) ∙ e)

pub err_item : {S A : Type 0} (C : Chain S A) (begin s : S) (bytes mid left : List ℕ) (done : List A) (stop : Stop) → Linked C
    → Came C begin bytes done s mid → Reads (C.items s) mid (Err stop) left → (C.ends s ≡ false) ⊎ ((b : ℕ) × (first mid ≡ Some b) × (C.goes s b ≡ true))
    → Reads (chains C begin) bytes (Err stop) left
err_item C begin s bytes mid left done Fault linked came stuck why = stuck_item C begin s bytes mid left done linked came stuck why
err_item C begin s bytes mid left done NoMemory linked came stuck why = tt

-- Where the text may end, a byte comes that may not stand behind it, and no item begins with it, there it is stuck.
pub stuck_end : {S A : Type 0} (C : Chain S A) (begin s : S) (bytes mid : List ℕ) (done : List A) (b : ℕ) → Linked C
    → Came C begin bytes done s mid → C.ends s ≡ true → first mid ≡ Some b → C.goes s b ≡ true
    → ((a : A) → (C.items s).Fits a → first ((C.items s).text a) ≢ Some b)
    → IsStuck (chains C begin) bytes mid
stuck_end {S} {A} C begin s bytes mid done b linked came end look goes no-item = record {
  front = chain_text C begin done;
  split = came.split;
  begins = (done, record { each = came.each; ends = ap C.ends came.state ∙ end }, ([], sym (append-nil (chain_text C begin done))));
  none = λ vs m seen whole am at e.
      let k = peeled C begin vs done m seen mid linked whole came.each came.apart at am e in
      refuted k.0 m seen (subst (λ (z : S). IsWhole C z k.0) came.state k.1) (subst (λ (z : S). Apart (C.goes (after C z k.0)) m) came.state (subst (λ (z : S). Apart (C.goes z) m) (sym k.2) am)) (at ∙ look)
      (ap (λ z. chain_text C z k.0 ++ m) (sym came.state) ∙ k.3);
}
  where
    refuted : (ws : List A) (m seen : List ℕ) → IsWhole C s ws → Apart (C.goes (after C s ws)) m → first seen ≡ Some b → chain_text C s ws ++ m ≡ seen → ⊥
    refuted [] [] seen w am at e = let f : first [] ≡ Some b = ap first e ∙ at in cc
    refuted [] (c ∷ m) seen w am at e =
        let f : Some c ≡ Some b = ap first e ∙ at in
        let g : c ≡ b = cc in
        let h : C.goes s b ≡ false = rw g at am in
        cc
    refuted (v ∷ ws) m seen w am at e =
        let v-first = linked.some s v w.each.0 in
        let f : Some v-first.0 ≡ first ((C.items s).text v) = ap first (sym v-first.2) in
        let g : first (chain_text C s (v ∷ ws) ++ m) ≡ Some v-first.0 = ap (λ t. first ((t ++ chain_text C (C.next s v) ws) ++ m)) v-first.2 in
        no-item v w.each.0 (sym f ∙ sym g ∙ ap first e ∙ at)

-- the items were read, and the text ends there
pub taken_chain : {S A : Type 0} (C : Chain S A) (begin s : S) (bytes left : List ℕ) (done : List A)
    → Came C begin bytes done s left → C.ends s ≡ true → Apart (C.goes s) left → IsTaken (chains C begin) bytes done left
taken_chain {S} C begin s bytes left done came end h = record {
  fits = record { each = came.each; ends = ap C.ends came.state ∙ end };
  split = came.split;
  apart = subst (λ (z : S). Apart (C.goes z) left) (sym came.state) h;
}

-- two such texts that begin alike are of the same items
pub splits_chain : {S A : Type 0} (C : Chain S A) (begin : S) → Linked C → Splits (chains C begin)
splits_chain {S} {A} C begin linked = record { same = same begin }
  where
    ended : (s : S) (w : A) (ws : List A) (m n : List ℕ) → (C.items s).Fits w → Apart (C.goes s) m → m ≡ chain_text C s (w ∷ ws) ++ n → ⊥
    ended s w ws m n f am e =
        let w-first = linked.some s w f in
        not_goes (C.goes s) w-first.0 ((w-first.1 ++ chain_text C (C.next s w) ws) ++ n) m w-first.3 am (e ∙ ap (λ t. (t ++ chain_text C (C.next s w) ws) ++ n) w-first.2)

    same : (s : S) (vs ws : List A) (m n : List ℕ) → IsWhole C s vs → IsWhole C s ws → Apart (C.goes (after C s vs)) m → Apart (C.goes (after C s ws)) n → chain_text C s vs ++ m ≡ chain_text C s ws ++ n → vs ≡ ws
    same s [] [] m n fv fw am an e = refl
    same s [] (w ∷ ws) m n fv fw am an e = absurd (ended s w ws m n fw.each.0 am e)
    same s (v ∷ vs) [] m n fv fw am an e = absurd (ended s v vs n m fv.each.0 an (sym e))
    same s (v ∷ vs) (w ∷ ws) m n fv fw am an e =
        let f : (C.items s).text v ++ (chain_text C (C.next s v) vs ++ m) ≡ (C.items s).text w ++ (chain_text C (C.next s w) ws ++ n) =
        sym (append_assoc ((C.items s).text v) (chain_text C (C.next s v) vs) m) ∙ e ∙ append_assoc ((C.items s).text w) (chain_text C (C.next s w) ws) n in
        let k : v ≡ w = (linked.splits s).same v w (chain_text C (C.next s v) vs ++ m) (chain_text C (C.next s w) ws ++ n) fv.each.0 fw.each.0
        (behind_item C s v vs m linked fv.each.0 fv.each.1 am) (behind_item C s w ws n linked fw.each.0 fw.each.1 an) f in
        let g : chain_text C (C.next s v) vs ++ m ≡ chain_text C (C.next s w) ws ++ n =
        append_cancel_left ((C.items s).text w) (chain_text C (C.next s v) vs ++ m) (chain_text C (C.next s w) ws ++ n) (ap (λ u. (C.items s).text u ++ (chain_text C (C.next s v) vs ++ m)) (sym k) ∙ f) in
        let l : vs ≡ ws = same (C.next s v) vs ws m n (record { each = fv.each.1; ends = fv.ends })
        (subst (λ (z : A). IsWhole C (C.next s z) ws) (sym k) (record { each = fw.each.1; ends = fw.ends })) am
        (subst (λ (z : A). Apart (C.goes (after C (C.next s z) ws)) n) (sym k) an)
        (g ∙ ap (λ z. chain_text C (C.next s z) ws ++ n) (sym k)) in
        ap (λ u. u ∷ vs) k ∙ ap (λ us. w ∷ us) l
