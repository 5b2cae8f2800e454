-- Texts that are printed in a row.
use Rattle.std.proofs.Common.{Bool, true, false, true≢false, Result, Ok, Err, IfSome, OnOk, is_err, ◌≡◌, ◌∙◌, ◌++◌, ◌+◌, ◌<◌, ℕ, List, [], Option, Some, None}
use Rattle.std.proofs.Common.{refl, ap, sym, subst, append-nil, append_assoc, flat_map, get_or, length, take}
use Rattle.std.specs.Io.KnownBytes.{Appends, Keeps}
use Rattle.std.proofs.lemmas.List.{flat_map_more, take_more}
use Rattle.program.specs.Outputs.{Prints}
use Rattle.program.specs.declared.output.Output.{Output}

appends-then : (a b c : Option (List ℕ)) (xs ys : List ℕ) → Appends a b xs → Appends b c ys → Appends a c (xs ++ ys)
appends-then None b c xs ys first second = tt
appends-then (Some x) None c xs ys first second = absurd first
appends-then (Some x) (Some y) None xs ys first second = absurd second
appends-then (Some x) (Some y) (Some z) xs ys first second = second ∙ ap (λ t. t ++ ys) first ∙ append_assoc x xs ys

pub appends-nothing : (a b : Option (List ℕ)) → Keeps a b → Appends a b []
appends-nothing None b kept = tt
appends-nothing (Some x) None kept = absurd kept
appends-nothing (Some x) (Some y) kept = kept ∙ sym (append-nil x)

keeps-itself : (a : Option (List ℕ)) → Keeps a a
keeps-itself None = tt
keeps-itself (Some x) = refl

module _ {W : Type 0} (contents : W → Option (List ℕ)) where
  -- Nothing is printed to an output that is unchanged.
  pub unprinted : (a : Output W) → Prints contents a a []
  unprinted a fine = (fine, appends-nothing _ _ (keeps-itself (contents a.writer)))

  -- A text is printed, and then another.
  pub printed-then : (a b c : Output W) (xs ys : List ℕ) → Prints contents a b xs → Prints contents b c ys → Prints contents a c (xs ++ ys)
  printed-then a b c xs ys first second fine =
      let later = second fine in
      let before = first later.0 in
      (before.0, appends-then (contents a.writer) (contents b.writer) (contents c.writer) xs ys before.1 later.1)

  -- A text is printed, and then nothing.
  pub printed-flushed : (a b c : Output W) (xs : List ℕ) → Prints contents a b xs → Prints contents b c [] → Prints contents a c xs
  printed-flushed a b c xs first second = subst (Prints contents a c) (append-nil xs) (printed-then a b c xs [] first second)

  -- One more item of a list is printed.
  pub printed-more : {X : Type 0} (f : X → List ℕ) (xs : List X) (i : ℕ) (x : X) (a b c : Output W) → i < length xs
      → Prints contents a b (flat_map f (take i xs)) → Prints contents b c (f (get_or xs i x)) → Prints contents a c (flat_map f (take (i + 1) xs))
  printed-more f xs i x a b c inside first second =
      let longer : flat_map f (take i xs) ++ f (get_or xs i x) ≡ flat_map f (take (i + 1) xs) =
      flat_map_more f [] (take i xs) (get_or xs i x) ∙ ap (flat_map f) (sym (take_more xs i x inside)) in
      subst (Prints contents a c) longer (printed-then a b c _ _ first second)

  -- Nothing is printed after a failure.
  pub failed-before : (o : Option (List ℕ)) (a : Output W) → a.has_failed ≡ true → IfSome o (Prints contents a a)
  failed-before None a failed = tt
  failed-before (Some text) a failed = λ fine. absurd (true≢false (sym failed ∙ fine))

  -- A write fails or appends its text.
  pub written : {X E : Type 0} (o : Option (List ℕ)) (r : Result X E) (old : Output W) (writer : W) (failed : Bool) → failed ≡ is_err r
      → OnOk r (IfSome o (Appends (contents old.writer) (contents writer))) → old.has_failed ≡ false
      → IfSome o (Prints contents old (record { writer = writer; has_failed = failed }))
  written None r old writer failed is appends good = tt
  written (Some text) (Ok done) old writer failed is appends good = λ fine. (good, appends)
  written (Some text) (Err why) old writer failed is appends good = λ fine. absurd (true≢false (sym is ∙ fine))
