-- The text layer: the verdict on a text tells whether it is lawful, and what is wrong with it first.
use Rattle.std.proofs.Common.{◌≡◌, ℕ, ◌<◌, ◌⊎◌, List, length, Some, None, Option, Result, sym, refl, ap, ◌∙◌, inl, inr, ⊎_elim}
use Rattle.faults.specs.declared.Spot.{Spot}
use Rattle.faults.specs.declared.TextFault.{TextFault}
use Rattle.faults.specs.declared.TextFault.TheVariants.{TooLong, NoEnd, BadByte, Spacing}
use Rattle.text.specs.Text.{fault_or, text_verdict}
use Rattle.text.specs.Text as law
use Rattle.refusals.specs.Texts.{spot_of, BadByteAt, BadSpacingAt, First, Nowhere, Short, Ended, Unended, TextLawful, TextFaulty, too_long, no_end, bad_byte, bad_spacing}
use Rattle.refusals.proofs.Telling.{Tells, tells_like, tells_ok, tells_err, tells_cond, not_both}
use Rattle.refusals.proofs.Scanning.{Finds, scan_finds, not_some}
use Rattle.refusals.proofs.Laws.{byte_decides, space_decides, space_inside, length_parts, end_parts}

-- a fault where a search finds something, and else the next answer
fault_or_tells : (o : Option Spot) (mark : Spot → TextFault) {P : Spot → Type 0} {Q : Type 0} {r : Result (Unit {0}) TextFault} {L : Unit {0} → Type 0} {F : TextFault → Type 0} → Finds o P Q → (Q → Tells r L F)
    → Tells (fault_or o mark r) (λ u. Q × L u) (λ f. ((s : Spot) × P s × (f ≡ mark s)) ⊎ (Q × F f))
fault_or_tells (Some s) mark finds t = record {
  lawful = λ u e. absurd (not_both (sym e));
  granted = λ u p. absurd (not_some (sym (finds.missed_by p.0)));
  faulty = λ f e. inl (s, finds.found s refl, cc);
  refused = λ f. ⊎_elim (λ p. let same = finds.found_by p.0 p.1 in let is = p.2 in cc) (λ p. absurd (not_some (sym (finds.missed_by p.0))));
}
fault_or_tells None mark finds t = record {
  lawful = λ u e. (finds.missed refl, (t (finds.missed refl)).lawful u e);
  granted = λ u p. (t p.0).granted u p.1;
  faulty = λ f e. inr (finds.missed refl, (t (finds.missed refl)).faulty f e);
  refused = λ f. ⊎_elim (λ p. absurd (not_some (finds.found_by p.0 p.1))) (λ p. (t p.0).refused f p.1);
}

-- the four checks in turn
module _ (text : List ℕ) where
  abbrev InTurn : TextFault → Type 0
  InTurn f =
      ((16384 < length text) × (f ≡ TooLong)) ⊎ (Short text
      × ((Unended text × (f ≡ NoEnd)) ⊎ (Ended text
      × (((s : Spot) × ((k : ℕ) × First (BadByteAt text) k × (s ≡ spot_of text k)) × (f ≡ BadByte s)) ⊎ (Nowhere (BadByteAt text)
      × (((s : Spot) × ((k : ℕ) × First (BadSpacingAt text) k × (s ≡ spot_of text k)) × (f ≡ Spacing s)) ⊎ (Nowhere (BadSpacingAt text) × ⊥)))))))

  faulty_in_turn : (f : TextFault) → InTurn f → TextFaulty text f
  faulty_in_turn f (inl (long, is)) = too_long long is
  faulty_in_turn f (inr (short, inl (unended, is))) = no_end short unended is
  faulty_in_turn f (inr (short, inr (ended, inl (s, (k, first, at), is)))) = bad_byte short ended k first (is ∙ ap BadByte at)
  faulty_in_turn f (inr (short, inr (ended, inr (none, inl (s, (k, first, at), is))))) = bad_spacing short ended none k first (is ∙ ap Spacing at)
  faulty_in_turn f (inr (short, inr (ended, inr (none, inr (nowhere, z))))) = absurd z

  in_turn : (f : TextFault) → TextFaulty text f → InTurn f
  in_turn f (too_long long is) = inl (long, is)
  in_turn f (no_end short unended is) = inr (short, inl (unended, is))
  in_turn f (bad_byte short ended k first is) = inr (short, inr (ended, inl (spot_of text k, (k, first, refl), is)))
  in_turn f (bad_spacing short ended none k first is) = inr (short, inr (ended, inr (none, inl (spot_of text k, (k, first, refl), is))))

  abbrev AllLaws : Unit {0} → Type 0
  AllLaws u =
      ((16384 < length text) × ⊥) ⊎ (Short text × ((Unended text × ⊥) ⊎ (Ended text × (Nowhere (BadByteAt text) × (Nowhere (BadSpacingAt text) × (◌≡◌ {A = Unit {0}} tt u))))))

  lawful_by_all : (u : Unit {0}) → AllLaws u → TextLawful text
  lawful_by_all u (inl (long, z)) = absurd z
  lawful_by_all u (inr (short, inl (unended, z))) = absurd z
  lawful_by_all u (inr (short, inr (ended, (bytes, (spaces, is))))) = record { short = short; ended = ended; bytes = bytes; spaces = spaces }

  all_laws : (u : Unit {0}) → TextLawful text → AllLaws u
  all_laws u l = inr (l.short, inr (l.ended, (l.bytes, (l.spaces, refl))))

-- the verdict on a text tells
pub text_tells : (text : List ℕ) → Tells (text_verdict text) (λ u. TextLawful text) (TextFaulty text)
text_tells text =
    tells_like (tells_cond _ (length_parts text) (λ _. tells_err TooLong) (λ _.
    tells_cond _ (end_parts text) (λ _. tells_err NoEnd) (λ ended.
    fault_or_tells _ BadByte (scan_finds law.bad_byte text (BadByteAt text) (λ k b. b.inside) (byte_decides text)) (λ _.
    fault_or_tells _ Spacing (scan_finds law.bad_spacing text (BadSpacingAt text) (space_inside text) (space_decides text ended)) (λ _.
    tells_ok tt)))))
    (lawful_by_all text) (all_laws text) (faulty_in_turn text) (in_turn text)
