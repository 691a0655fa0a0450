-- Lists of whole numbers in ascending order.
--   below_next       an item before the next one is less
--   Picked Q f r     r has, in ascending order, the items of f with Q; pick_more, pick_same: after one more
--   Grown b m f r    r has, in ascending order, the items of b and those of f above m; grow_more, grow_same
--   inserted_items   what the two make together
--   Divided c f r    r has, in ascending order, the quotients by c of items of f; divide_more, divide_same
--   Differs l r f s  s has the items of l and the differences of items of f to r; differ_more
--   AllDiffer l f s t    t has the items of l and the differences of items of s to items of f; all_differ_more
use Rattle.std.proofs.Common.{◌≡◌, ◌≢◌, ℕ, ◌+◌, ◌<◌, ◌≤◌, inl, inr, sym, subst, ◌∙◌, refl, ap, List, [], ◌∷◌, ◌++◌, length, take, get_or, ℤ, pos, ◌-ℤ◌, ◌*ℤ◌, ◌<ℤ◌, ◌≤ℤ◌, ◌⊎◌, ◌↔◌, AllPairs, Contains, arith}
use Rattle.std.proofs.lemmas.Int.{ints}
use Rattle.sg_spread.specs.Lists.{IsKept, IsQuotientKept}
use Rattle.std.proofs.lemmas.List.{get_or-take, take_more, take_all, length-take-le, get_or_default}
use Rattle.std.proofs.lemmas.List.Elements.{Contains-get_or, Contains-append_left, Contains-push, Contains-push_cases}
use Rattle.std.proofs.lemmas.List.Quantifiers.{all_pairs_push}
use Rattle.sg_algebra.proofs.Solver.{ring}
use Rattle.sg_algebra.proofs.Whole.{ℤR, readsℤ, cancelℤ, lt_of_mul}

-- an item of the front stands before the next one
pub below_next : (all : List ℤ) (i : ℕ) (m : ℤ) → AllPairs ◌<ℤ◌ all → i < length all → get_or all i m ≡ m → (x : ℤ) → Contains (take i all) x → x <ℤ m
below_next all i m up l is x h =
    let (k, inside, at) = h in
    let size : length (take i all) ≡ i = length-take-le i all (omega arith) in
    let mine : get_or all k x ≡ x = sym (get_or-take i all k x (omega arith)) ∙ at in
    let next : get_or all i x ≡ m = get_or_default all i x m l ∙ is in
    let q : get_or all k x <ℤ get_or all i x = up k i x (omega arith) l in
    rw (mine, next) at q

pub more : (all : List ℤ) (i : ℕ) (m : ℤ) → i < length all → get_or all i m ≡ m → take (i + 1) all ≡ take i all ++ m ∷ []
more all i m l is = let t = take_more all i m l in rw is at t

ascending_push : (r : List ℤ) (v : ℤ) → AllPairs ◌<ℤ◌ r → ((x : ℤ) → Contains r x → x <ℤ v) → AllPairs ◌<ℤ◌ (r ++ v ∷ [])
ascending_push r v up before = all_pairs_push ◌<ℤ◌ r v up (λ k d inside. before (get_or r k d) (Contains-get_or r k d inside))

pub record Picked (Q : ℤ → Type 0) (f r : List ℤ) : Type 0 where
  pub ascending : AllPairs ◌<ℤ◌ r
  pub items : (x : ℤ) → Contains r x ↔ (Contains f x × Q x)

module _ (Q : ℤ → Type 0) (f r : List ℤ) (v : ℤ) (before : (x : ℤ) → Contains f x → x <ℤ v) (p : Picked Q f r) where
  pub pick_more : Q v → Picked Q (f ++ v ∷ []) (r ++ v ∷ [])
  pick_more q = record {
    ascending = ascending_push r v p.ascending (λ x h. before x ((p.items x).0 h).0);
    items = λ x. (
      λ h. elim (Contains-push_cases r v x h) [
        | inl k ↦ let (c, s) = (p.items x).0 k in (Contains-append_left f (v ∷ []) x c, s)
        | inr e ↦ (subst (λ y. Contains (f ++ v ∷ []) y) e (Contains-push f v), subst Q e q)
      ],
      λ h. elim (Contains-push_cases f v x h.0) [
        | inl k ↦ Contains-append_left r (v ∷ []) x ((p.items x).1 (k, h.1))
        | inr e ↦ subst (λ y. Contains (r ++ v ∷ []) y) e (Contains-push r v)
      ],
    );
  }

  pub pick_same : ¬ Q v → Picked Q (f ++ v ∷ []) r
  pick_same n = record {
    ascending = p.ascending;
    items = λ x. (
      λ k. let (c, s) = (p.items x).0 k in (Contains-append_left f (v ∷ []) x c, s),
      λ h. elim (Contains-push_cases f v x h.0) [
        | inl k ↦ (p.items x).1 (k, h.1)
        | inr e ↦ absurd (n (subst Q (sym e) h.1))
      ],
    );
  }

pub record Grown (b : List ℤ) (m : ℤ) (f r : List ℤ) : Type 0 where
  pub ascending : AllPairs ◌<ℤ◌ r
  pub items : (x : ℤ) → Contains r x ↔ (Contains b x ⊎ (Contains f x × (m <ℤ x)))

chain : (x m v : ℤ) → x ≤ℤ m → m <ℤ v → x <ℤ v
chain x m v h k = omega (arith, ints)

module _ (b : List ℤ) (m : ℤ) (f r : List ℤ) (v : ℤ) (before : (x : ℤ) → Contains f x → x <ℤ v) (low : (x : ℤ) → Contains b x → x ≤ℤ m) (p : Grown b m f r) where
  pub grow_more : m <ℤ v → Grown b m (f ++ v ∷ []) (r ++ v ∷ [])
  grow_more q = record {
    ascending = ascending_push r v p.ascending (λ x h. elim ((p.items x).0 h) [ inl k ↦ chain x m v (low x k) q | inr k ↦ before x k.0 ]);
    items = λ x. (
      λ h. elim (Contains-push_cases r v x h) [
        | inl k ↦ elim ((p.items x).0 k) [ inl c ↦ inl c | inr c ↦ inr (Contains-append_left f (v ∷ []) x c.0, c.1) ]
        | inr e ↦ inr (subst (λ y. Contains (f ++ v ∷ []) y) e (Contains-push f v), subst (λ y. m <ℤ y) e q)
      ],
      λ h. elim h [
        | inl c ↦ Contains-append_left r (v ∷ []) x ((p.items x).1 (inl c))
        | inr c ↦ elim (Contains-push_cases f v x c.0) [
          | inl k ↦ Contains-append_left r (v ∷ []) x ((p.items x).1 (inr (k, c.1)))
          | inr e ↦ subst (λ y. Contains (r ++ v ∷ []) y) e (Contains-push r v)
        ]
      ],
    );
  }

  pub grow_same : ¬ (m <ℤ v) → Grown b m (f ++ v ∷ []) r
  grow_same n = record {
    ascending = p.ascending;
    items = λ x. (
      λ k. elim ((p.items x).0 k) [ inl c ↦ inl c | inr c ↦ inr (Contains-append_left f (v ∷ []) x c.0, c.1) ],
      λ h. elim h [
        | inl c ↦ (p.items x).1 (inl c)
        | inr c ↦ elim (Contains-push_cases f v x c.0) [
          | inl k ↦ (p.items x).1 (inr (k, c.1))
          | inr e ↦ absurd (n (subst (λ y. m <ℤ y) (sym e) c.1))
        ]
      ],
    );
  }

-- the smaller items and m, before the larger ones
module _ (list r : List ℤ) (m : ℤ) (p : Picked (λ x. x <ℤ m) list r) where
  pub pushed_low : (x : ℤ) → Contains (r ++ m ∷ []) x → x ≤ℤ m
  pushed_low x h = elim (Contains-push_cases r m x h) [ inl k ↦ weak x m ((p.items x).0 k).1 | inr e ↦ same m x e ]
    where
      weak : (x m : ℤ) → x <ℤ m → x ≤ℤ m
      weak x m h = omega (arith, ints)

      same : (m x : ℤ) → m ≡ x → x ≤ℤ m
      same m x e = omega (arith, ints)

  pub grow_first : Grown (r ++ m ∷ []) m [] (r ++ m ∷ [])
  grow_first = record {
    ascending = ascending_push r m p.ascending (λ x h. ((p.items x).0 h).1);
    items = λ x. (λ h. inl h, λ h. elim h [ inl k ↦ k | inr c ↦ absurd (let inside = c.0.1 in omega arith) ]);
  }

  three : (x m : ℤ) → (x <ℤ m) ⊎ ((x ≡ m) ⊎ (m <ℤ x))
  three x m = grind (arith, ints)

  pub inserted_items : (s : List ℤ) → Grown (r ++ m ∷ []) m list s → (x : ℤ) → Contains s x ↔ (Contains list x ⊎ (x ≡ m))
  inserted_items s g x = (
    λ h. elim ((g.items x).0 h) [
      | inl k ↦ elim (Contains-push_cases r m x k) [ inl c ↦ inl ((p.items x).0 c).0 | inr e ↦ inr (sym e) ]
      | inr c ↦ inl c.0
    ],
    λ h. elim h [
      | inl c ↦ elim (three x m) [
        | inl l ↦ (g.items x).1 (inl (Contains-append_left r (m ∷ []) x ((p.items x).1 (c, l))))
        | inr o ↦ elim o [ inl e ↦ (g.items x).1 (inl (subst (λ y. Contains (r ++ m ∷ []) y) (sym e) (Contains-push r m))) | inr l ↦ (g.items x).1 (inr (c, l)) ]
      ]
      | inr e ↦ (g.items x).1 (inl (subst (λ y. Contains (r ++ m ∷ []) y) (sym e) (Contains-push r m)))
    ],
  )

-- ---- Quotients

turned : (x y : ℤ) → x *ℤ y ≡ y *ℤ x
turned x y = ring ℤR (x ∷ y ∷ []) (search readsℤ depth 12) refl

pub record Divided (c : ℤ) (f r : List ℤ) : Type 0 where
  pub ascending : AllPairs ◌<ℤ◌ r
  pub items : (x : ℤ) → Contains r x ↔ Contains f (c *ℤ x)

module _ (c : ℤ) (positive : pos 0 <ℤ c) (f r : List ℤ) (v : ℤ) (before : (x : ℤ) → Contains f x → x <ℤ v) (p : Divided c f r) where
  not_zero : (c : ℤ) → pos 0 <ℤ c → c ≢ pos 0
  not_zero c h e = omega (arith, ints)

  less : (x q : ℤ) → (c *ℤ x) <ℤ (c *ℤ q) → x <ℤ q
  less x q h = lt_of_mul x q c (subst (λ z. z <ℤ (q *ℤ c)) (turned c x) (subst (λ z. (c *ℤ x) <ℤ z) (turned c q) h)) positive

  pub divide_more : (q : ℤ) → c *ℤ q ≡ v → Divided c (f ++ v ∷ []) (r ++ q ∷ [])
  divide_more q e = record {
    ascending = ascending_push r q p.ascending (λ x h. less x q (subst (λ y. (c *ℤ x) <ℤ y) (sym e) (before (c *ℤ x) ((p.items x).0 h))));
    items = λ x. (
      λ h. elim (Contains-push_cases r q x h) [
        | inl k ↦ Contains-append_left f (v ∷ []) (c *ℤ x) ((p.items x).0 k)
        | inr d ↦ subst (λ y. Contains (f ++ v ∷ []) y) (sym e ∙ ap (λ y. c *ℤ y) d) (Contains-push f v)
      ],
      λ h. elim (Contains-push_cases f v (c *ℤ x) h) [
        | inl k ↦ Contains-append_left r (q ∷ []) x ((p.items x).1 k)
        | inr d ↦ subst (λ y. Contains (r ++ q ∷ []) y) (cancelℤ c q x (not_zero c positive) (e ∙ d)) (Contains-push r q)
      ],
    );
  }

  pub divide_same : ((q : ℤ) → c *ℤ q ≢ v) → Divided c (f ++ v ∷ []) r
  divide_same none = record {
    ascending = p.ascending;
    items = λ x. (
      λ k. Contains-append_left f (v ∷ []) (c *ℤ x) ((p.items x).0 k),
      λ h. elim (Contains-push_cases f v (c *ℤ x) h) [ inl k ↦ (p.items x).1 k | inr e ↦ absurd (none x (sym e)) ],
    );
  }

-- ---- Differences

abbrev pub Differs : List ℤ → ℤ → List ℤ → List ℤ → Type 0
Differs l z f s = (x : ℤ) → Contains s x ↔ (Contains l x ⊎ ((y : ℤ) × Contains f y × (x ≡ y -ℤ z)))

pub differ_first : (l : List ℤ) (z : ℤ) → Differs l z [] l
differ_first l z x = (λ h. inl h, λ h. elim h [ inl k ↦ k | inr k ↦ absurd (let inside = k.1.1 in omega arith) ])

pub differ_more : (l : List ℤ) (z : ℤ) (f s new : List ℤ) (v : ℤ) → Differs l z f s → ((x : ℤ) → Contains new x ↔ (Contains s x ⊎ (x ≡ v -ℤ z))) → Differs l z (f ++ v ∷ []) new
differ_more l z f s new v p h x = (
  λ k. elim ((h x).0 k) [
    | inl g ↦ elim ((p x).0 g) [ inl i ↦ inl i | inr i ↦ inr (i.0, Contains-append_left f (v ∷ []) i.0 i.1, i.2) ]
    | inr e ↦ inr (v, Contains-push f v, e)
  ],
  λ k. elim k [
    | inl i ↦ (h x).1 (inl ((p x).1 (inl i)))
    | inr i ↦ elim (Contains-push_cases f v i.0 i.1) [ inl g ↦ (h x).1 (inl ((p x).1 (inr (i.0, g, i.2)))) | inr e ↦ (h x).1 (inr (i.2 ∙ ap (λ y. y -ℤ z) (sym e))) ]
  ],
)

abbrev pub AllDiffer : List ℤ → List ℤ → List ℤ → List ℤ → Type 0
AllDiffer l f s t = (x : ℤ) → Contains t x ↔ (Contains l x ⊎ ((z : ℤ) × Contains f z × ((y : ℤ) × Contains s y × (x ≡ y -ℤ z))))

pub all_differ_first : (l s : List ℤ) → AllDiffer l [] s l
all_differ_first l s x = (λ h. inl h, λ h. elim h [ inl k ↦ k | inr k ↦ absurd (let inside = k.1.1 in omega arith) ])

pub all_differ_more : (l f s t new : List ℤ) (v : ℤ) → AllDiffer l f s t → Differs t v s new → AllDiffer l (f ++ v ∷ []) s new
all_differ_more l f s t new v p h x = (
  λ k. elim ((h x).0 k) [
    | inl g ↦ elim ((p x).0 g) [ inl i ↦ inl i | inr i ↦ inr (i.0, Contains-append_left f (v ∷ []) i.0 i.1, i.2) ]
    | inr i ↦ inr (v, Contains-push f v, i)
  ],
  λ k. elim k [
    | inl i ↦ (h x).1 (inl ((p x).1 (inl i)))
    | inr i ↦ elim (Contains-push_cases f v i.0 i.1) [
      | inl g ↦ (h x).1 (inl ((p x).1 (inr (i.0, g, i.2))))
      | inr e ↦ (h x).1 (inr (subst (λ z. (y : ℤ) × Contains s y × (x ≡ y -ℤ z)) (sym e) i.2))
    ]
  ],
)

-- ---- One more item of a list

module _ (all : List ℤ) (i : ℕ) (m : ℤ) (up : AllPairs ◌<ℤ◌ all) (l : i < length all) (is : get_or all i m ≡ m) where
  before_next : (x : ℤ) → Contains (take i all) x → x <ℤ m
  before_next = below_next all i m up l is

  pub picked_next : (Q : ℤ → Type 0) (r new : List ℤ) → Picked Q (take i all) r → IsKept (Q m) m r new → Picked Q (take (i + 1) all) new
  picked_next Q r new p k = subst (λ f. Picked Q f new) (sym (more all i m l is)) (elim k [
    | inl h ↦ subst (λ z. Picked Q (take i all ++ m ∷ []) z) (sym h.1) (pick_more Q (take i all) r m before_next p h.0)
    | inr h ↦ subst (λ z. Picked Q (take i all ++ m ∷ []) z) (sym h.1) (pick_same Q (take i all) r m before_next p h.0)
  ])

  pub grown_next : (b : List ℤ) (c : ℤ) (r new : List ℤ) → ((x : ℤ) → Contains b x → x ≤ℤ c) → Grown b c (take i all) r → IsKept (c <ℤ m) m r new → Grown b c (take (i + 1) all) new
  grown_next b c r new low p k = subst (λ f. Grown b c f new) (sym (more all i m l is)) (elim k [
    | inl h ↦ subst (λ z. Grown b c (take i all ++ m ∷ []) z) (sym h.1) (grow_more b c (take i all) r m before_next low p h.0)
    | inr h ↦ subst (λ z. Grown b c (take i all ++ m ∷ []) z) (sym h.1) (grow_same b c (take i all) r m before_next low p h.0)
  ])

  pub divided_next : (c : ℤ) (r new : List ℤ) → pos 0 <ℤ c → Divided c (take i all) r → IsQuotientKept c m r new → Divided c (take (i + 1) all) new
  divided_next c r new positive p k = subst (λ f. Divided c f new) (sym (more all i m l is)) (elim k [
    | inl h ↦ subst (λ z. Divided c (take i all ++ m ∷ []) z) (sym h.2) (divide_more c positive (take i all) r m before_next p h.0 (turned c h.0 ∙ h.1))
    | inr h ↦ subst (λ z. Divided c (take i all ++ m ∷ []) z) (sym h.1) (divide_same c positive (take i all) r m before_next p (λ q e. h.0 q (turned q c ∙ e)))
  ])

pub picked_end : (Q : ℤ → Type 0) (all r : List ℤ) (i : ℕ) → length all ≤ i → Picked Q (take i all) r → Picked Q all r
picked_end Q all r i h p = subst (λ f. Picked Q f r) (take_all i all h) p

pub grown_end : (b : List ℤ) (m : ℤ) (all r : List ℤ) (i : ℕ) → length all ≤ i → Grown b m (take i all) r → Grown b m all r
grown_end b m all r i h p = subst (λ f. Grown b m f r) (take_all i all h) p

pub divided_end : (c : ℤ) (all r : List ℤ) (i : ℕ) → length all ≤ i → Divided c (take i all) r → Divided c all r
divided_end c all r i h p = subst (λ f. Divided c f r) (take_all i all h) p

module _ (all : List ℤ) (i : ℕ) (m : ℤ) (l : i < length all) (is : get_or all i m ≡ m) where
  pub differs_next : (list : List ℤ) (z : ℤ) (s new : List ℤ) (d : ℤ) → d ≡ m -ℤ z → Differs list z (take i all) s → ((x : ℤ) → Contains new x ↔ (Contains s x ⊎ (x ≡ d))) → Differs list z (take (i + 1) all) new
  differs_next list z s new d e p h = subst (λ f. Differs list z f new) (sym (more all i m l is)) (differ_more list z (take i all) s new m p (subst (λ d. (x : ℤ) → Contains new x ↔ (Contains s x ⊎ (x ≡ d))) e h))

  pub all_differ_next : (list s t new : List ℤ) → AllDiffer list (take i all) s t → Differs t m s new → AllDiffer list (take (i + 1) all) s new
  all_differ_next list s t new p h = subst (λ f. AllDiffer list f s new) (sym (more all i m l is)) (all_differ_more list (take i all) s t new m p h)

pub differs_end : (list : List ℤ) (z : ℤ) (all s : List ℤ) (i : ℕ) → length all ≤ i → Differs list z (take i all) s → Differs list z all s
differs_end list z all s i h p = subst (λ f. Differs list z f s) (take_all i all h) p

pub all_differ_end : (list all s t : List ℤ) (i : ℕ) → length all ≤ i → AllDiffer list (take i all) s t → AllDiffer list all s t
all_differ_end list all s t i h p = subst (λ f. AllDiffer list f s t) (take_all i all h) p
