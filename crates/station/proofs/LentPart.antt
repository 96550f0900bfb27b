-- A part of a lent slice is lent on under a name of its own, and what the slice ends as follows what the part ends as: the bytes before it and
-- behind it are put by, and are put back around it. Assumes `Logic`.
use mathlib.Core.Path.{◌≡◌, refl, sym, ap, ◌∙◌}
use Prim.Native.Nat.{ℕ, ◌+◌, ◌≤◌}
use native.Mathlib.Omega.{arith}
use mathlib.Core.List.{List, [], ◌∷◌, ◌++◌}
use lib.ListN.{length, take, drop as drop_list, length-append, length-drop, take-append-drop}
use Rattle.std.proofs.lemmas.List.{drop-drop}
use seplogic.Ra.Ura.{Ura}
use mir.Syntax.{Lifetime}
use mir.Val.{Val}
use base.Logic.{SProp, ent, sep, ex}
use base.Stored.{coded_list}
use base.Fml.{Lft, GName, Share, flft, fobs, fbor}
use types.Logic.{Logic, sem}
use types.Kit.{Item, ‵, ◌⊛◌, ◌$◌, ◌∵◌, !, qed, move, drop, fsplit, fsplit3, fjoin, updating, await, later, some, use1, use2, group, pick, now, show, done, split, split3, rewrite, feq_l, feq_i, join}
use types.SemTy.{cells, Arr, Body}
use types.Follow.{takes_part}
use types.Mut.{open_ref}
use denote.Builtin.{u8}
use denote.Memory.{mem}
use denote.Array.{Array}
use denote.Slice.{MutSlice, Room, slice_val}
use denote.Follow.{follows}
use denote.FollowSlice.{heres_id, slice_of}
use borrow.Table.Elements.{at, at_byte, cut_app, join_app, length-take-le}

-- ---- the bytes

module _ (xs : List ℕ) (start n : ℕ) where
  -- The part, and the bytes before it and behind it.
  abbrev before : List ℕ
  before = take start xs

  abbrev inside : List ℕ
  inside = take n (drop_list start xs)

  abbrev behind : List ℕ
  behind = drop_list (start + n) xs

  cut : xs ≡ before ++ (inside ++ behind)
  cut =
      sym (take-append-drop start xs)
      ∙ ap (λ (l : List ℕ). before ++ l) (sym (take-append-drop n (drop_list start xs)) ∙ ap (λ (l : List ℕ). inside ++ l) (drop-drop n start xs))

  module _ (fits : start + n ≤ length xs) where
    long : length inside ≡ n
    long = let left = length-drop start xs in length-take-le n (drop_list start xs) (omega arith)

    -- Where the part lies, if the slice lies at o.
    place : (o : ℕ) → at o 1 (length before) ≡ start + o
    place o = at_byte o (length before) ∙ ap (λ (k : ℕ). k + o) (length-take-le start xs (omega arith))

-- ---- the loan

module _ {M : Type 1} {𝓤 : Ura M} (𝓛 : Logic 𝓤) (ℓ : Lifetime) (κ : Lft) (q : Share) (b o : ℕ) (γ : GName) (xs : List ℕ) (start n : ℕ) where
  open 𝓛 use {H, A}

  -- What the slice ends as.
  abbrev around : List ℕ → List ℕ
  around ws = before xs start n ++ (ws ++ behind xs start n)

  -- The part under a new name, the token, and that the slice follows the part.
  abbrev pub part_lent : GName → Item 𝓤
  part_lent δ =
      ‵ ((MutSlice ℓ κ u8).own_val (record { ref_ptr = (b, start + o); ghost_name = δ; now = inside xs start n }) (slice_val (b, start + o) n ∷ []))
      ⊛ ‵ (flft κ q) ⊛ ‵ (follows (Array u8 0) (Array u8 0) γ δ around)

  abbrev pub PartLent : GName → SProp 𝓤
  PartLent δ =
      sep 𝓤 (sem 𝓛 ((MutSlice ℓ κ u8).own_val (record { ref_ptr = (b, start + o); ghost_name = δ; now = inside xs start n }) (slice_val (b, start + o) n ∷ [])))
      (sep 𝓤 (A.lft κ q) (sem 𝓛 (follows (Array u8 0) (Array u8 0) γ δ around)))

  -- Where the bytes behind it lie, and the bytes that are put by.
  abbrev past : ℕ → ℕ
  past k = at (start + o) (mem u8).size k

  abbrev Others : SProp 𝓤
  Others = sep 𝓤 (sem 𝓛 (cells (mem u8) (before xs start n) b o)) (sem 𝓛 (cells (mem u8) (behind xs start n) b (past (length (inside xs start n)))))

  module _ (fits : start + n ≤ length xs) where
    put_back : (ws : List ℕ) → ent 𝓤 (sep 𝓤 (sem 𝓛 ((Arr (mem u8) (length (inside xs start n))).own_at ws b (start + o))) Others) (sem 𝓛 ((Arr (mem u8) (length xs)).own_at (around ws) b o))
    put_back ws =
        let front = before xs start n in
        let mid = inside xs start n in
        let back = behind xs start n in
        qed 𝓛 (‵ ((Arr (mem u8) (length mid)).own_at ws b (start + o)) ∷ ‵ (cells (mem u8) front b o) ∷ ‵ (cells (mem u8) back b (past (length mid))) ∷ []) ∵
        fsplit ! $ feq_l ! (λ e.
        let whole : length xs ≡ length front + length (mid ++ back) = ap length (cut xs start n) ∙ length-append front (mid ++ back) in
        let inner : length (mid ++ back) ≡ length mid + length back = length-append mid back in
        let now_whole : length (around ws) ≡ length front + length (ws ++ back) = length-append front (ws ++ back) in
        let now_inner : length (ws ++ back) ≡ length ws + length back = length-append ws back in
        rewrite ! 2 (λ (k : ℕ). ‵ (cells (mem u8) back b (past k))) (sym e) refl $ move ! (0 ∷ 2 ∷ []) $
        use2 𝓛 (‵ (cells (mem u8) (ws ++ back) b (start + o))) (join_app 𝓛 (mem u8) ws back b (start + o)) $
        rewrite ! 0 (λ (k : ℕ). ‵ (cells (mem u8) (ws ++ back) b k)) (sym (place xs start n fits o)) refl $ move ! (1 ∷ 0 ∷ []) $
        use2 𝓛 (‵ (cells (mem u8) (around ws) b o)) (join_app 𝓛 (mem u8) front (ws ++ back) b o) $
        feq_i ! ℕ (length (around ws)) (length xs) (omega arith) $ fjoin ! $ done !)

    pub lends_part : Room u8 (length xs) → (vs : List Val)
        → ent 𝓤 (sep 𝓤 (sem 𝓛 ((MutSlice ℓ κ u8).own_val (record { ref_ptr = (b, o); ghost_name = γ; now = xs }) vs)) (A.lft κ q)) (H.⇛ (ex 𝓤 PartLent))
    lends_part room vs =
        let front = before xs start n in
        let mid = inside xs start n in
        let back = behind xs start n in
        let few : length mid ≡ n = long xs start n fits in
        qed 𝓛 (‵ ((MutSlice ℓ κ u8).own_val (record { ref_ptr = (b, o); ghost_name = γ; now = xs }) vs) ∷ ‵ (flft κ q) ∷ []) ∵ updating ! $ fsplit3 ! $ drop ! $
        rewrite ! 0 (λ (l : List ℕ). ‵ (fobs γ ((coded_list u8.coded).code l))) (heres_id u8 xs) refl $ open_ref ! tt (Arr (mem u8) (length xs)) {b = b} {o = o} $ fsplit ! $ drop ! $
        rewrite ! 0 (λ (l : List ℕ). ‵ (cells (mem u8) l b o)) (cut xs start n) refl $
        use1 𝓛 (‵ (cells (mem u8) front b o) ⊛ ‵ (cells (mem u8) (mid ++ back) b (at o (mem u8).size (length front)))) (cut_app 𝓛 (mem u8) front (mid ++ back) b o) $ split ! $ move ! (1 ∷ []) $
        rewrite ! 0 (λ (k : ℕ). ‵ (cells (mem u8) (mid ++ back) b k)) (place xs start n fits o) refl $
        use1 𝓛 (‵ (cells (mem u8) mid b (start + o)) ⊛ ‵ (cells (mem u8) back b (past (length mid)))) (cut_app 𝓛 (mem u8) mid back b (start + o)) $ split ! $
        feq_i ! ℕ (length mid) (length mid) refl $ fjoin ! $ move ! (2 ∷ 1 ∷ []) $ join ! $ move ! (2 ∷ 3 ∷ 4 ∷ 1 ∷ 0 ∷ []) $ group ! 5 $
        use1 𝓛 (later (some (λ (δ : GName). ‵ (fobs δ ((coded_list u8.coded).code mid)) ⊛ ‵ (fbor κ (Body (Arr (mem u8) (length mid)) b (start + o) δ)) ⊛ ‵ (flft κ q) ⊛ ‵ (follows (Array u8 0) (Array u8 0) γ δ around))))
        (takes_part 𝓛 (Arr (mem u8) (length xs)) (Arr (mem u8) (length mid)) around κ q b o b (start + o) γ Others put_back ((coded_list u8.coded).code xs) ((coded_list u8.coded).code xs) mid) $ await ! tt $ pick ! (λ δ. split3 ! $
        use2 𝓛 (‵ ((MutSlice ℓ κ u8).own_val (record { ref_ptr = (b, start + o); ghost_name = δ; now = mid }) (slice_val (b, start + o) (length mid) ∷ []))) (slice_of 𝓛 u8 ℓ κ b (start + o) δ mid (omega arith, omega arith)) $
        rewrite ! 0 (λ (k : ℕ). ‵ ((MutSlice ℓ κ u8).own_val (record { ref_ptr = (b, start + o); ghost_name = δ; now = mid }) (slice_val (b, start + o) k ∷ []))) few refl $ now ! $ show ! PartLent δ $ done !)
