-- A step of many roles is the steps of each, one after the other: `step_split`.
-- What a loop over the runs of equal roles asks for. Assumes nothing.
use mathlib.Core.Path.{◌≡◌, refl}
use mathlib.Core.Logic.{inl, inr, ⊎_elim}
use mathlib.Core.List.{List, [], ◌∷◌, ◌++◌}
use Prim.Native.Nat.{ℕ, ◌<◌}
use native.Mathlib.Omega.{arith}
use Rattle.tree.specs.Table.{Table}
use Rattle.tree.specs.Pairs.{Pair, pair}
use Rattle.tree.specs.Step.{Ask, step_list}
use Rattle.tree.proofs.StepLaws.{In, in_left, in_right, in_append, Ordered, Listed, listed_exactly}
use Rattle.tree.proofs.StepLaws.{step_ascends, ascends_append}
use Rattle.tree.proofs.AscendLaws.{ascends_only}

-- every role of the first list is below every role of the second
abbrev pub RolesBelow : List Pair → List Pair → Type 0
RolesBelow xs ys = (p q : Pair) → In p xs → In q ys → p.role < q.role

-- two lists, the first of lower roles
ordered_append : (xs ys : List Pair) → Ordered xs → Ordered ys → RolesBelow xs ys → Ordered (xs ++ ys)
ordered_append [] ys a b h = b
ordered_append (x ∷ xs) ys a b h = (
  λ q i. ⊎_elim (λ j. a.0 q j) (λ j. let z : x.role < q.role = h x q (inl refl) j in omega arith)
      (in_append q xs ys i),
  ordered_append xs ys a.1 b (λ p q i j. h p q (inr i) j),
)

module _ (t : Table) (a : Ask) where
  -- more pairs list no less
  listed_more : (xs ys : List Pair) (r w : ℕ) → ((c : ℕ) → In (pair r c) xs → In (pair r c) ys) → Listed t a xs r w
      → Listed t a ys r w
  listed_more xs ys r w h l = record {
    row = l.row;
    tested = l.tested;
    context = l.context;
    held = h l.context l.held;
    on_axis_lem = l.on_axis_lem;
  }

  -- a line's role is one of the pairs'
  line_role : (xs : List Pair) (p : Pair) → In p (step_list t a xs) → (c : ℕ) × In (pair p.role c) xs
  line_role xs p i =
      let l : Listed t a xs p.role p.row = (listed_exactly t a xs p.role p.row).0 i in
      (l.context, l.held)

  -- 01: a step of many roles is the steps of each, one after the other
  pub step_split : (xs ys : List Pair) → Ordered xs → Ordered ys → RolesBelow xs ys
      → step_list t a (xs ++ ys) ≡ step_list t a xs ++ step_list t a ys
  step_split xs ys o u h =
      ascends_only _ _ (step_ascends t a (xs ++ ys) (ordered_append xs ys o u h))
      (ascends_append (step_list t a xs) (step_list t a ys) (step_ascends t a xs o) (step_ascends t a ys u)
      (λ p q i j. let c = line_role xs p i in let d = line_role ys q j in
      inl (h (pair p.role c.0) (pair q.role d.0) c.1 d.1)))
      there back
    where
      there : (p : Pair) → In p (step_list t a (xs ++ ys)) → In p (step_list t a xs ++ step_list t a ys)
      there p i =
          let l : Listed t a (xs ++ ys) p.role p.row = (listed_exactly t a (xs ++ ys) p.role p.row).0 i in
          ⊎_elim
          (λ j. in_left p (step_list t a xs) (step_list t a ys) ((listed_exactly t a xs p.role p.row).1
          (record { row = l.row; tested = l.tested; context = l.context; held = j; on_axis_lem = l.on_axis_lem })))
          (λ j. in_right p (step_list t a xs) (step_list t a ys) ((listed_exactly t a ys p.role p.row).1
          (record { row = l.row; tested = l.tested; context = l.context; held = j; on_axis_lem = l.on_axis_lem })))
          (in_append (pair p.role l.context) xs ys l.held)

      back : (p : Pair) → In p (step_list t a xs ++ step_list t a ys) → In p (step_list t a (xs ++ ys))
      back p i = (listed_exactly t a (xs ++ ys) p.role p.row).1 (⊎_elim
          (λ j. listed_more xs (xs ++ ys) p.role p.row (λ c. in_left (pair p.role c) xs ys)
          ((listed_exactly t a xs p.role p.row).0 j))
          (λ j. listed_more ys (xs ++ ys) p.role p.row (λ c. in_right (pair p.role c) xs ys)
          ((listed_exactly t a ys p.role p.row).0 j))
          (in_append p (step_list t a xs) (step_list t a ys) i))
