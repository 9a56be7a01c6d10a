use Rattle.std.proofs.Common.{◌≡◌, ℕ, ◌-◌, ◌^◌, ◌<◌, false, List, ◌∷◌, ◌++◌, Some, None, Option, refl, sym, ap, ◌∙◌, subst, append-nil, rules}
use Rattle.std.specs.Option.{option_map}
use Rattle.std.specs.Fmt.{◌++?◌, DisplaysOnOk, decimal, digits, digits_output, styled_digits_output, format_spec, padded_integral, shown_prefix, radix_prefix}
use Rattle.std.proofs.lemmas.Fmt.{hex_byte}
use Rattle.margin.specs.declared.Figures.{Figures}
use Rattle.desk.specs.declared.replies.Outcome.{Outcome}
use Rattle.desk.specs.Replies.{two_hex, outcome_number, outcome_figures, figures_text, outcome_text}
use Rattle.desk.proofs.replies.OutcomeDisplay.fmt.Goals as goal

tag_text : (n : ℕ) (d : _) (s : _) → n < 256 → digits_output d ≡ Some (digits 16 false n) → s ≡ format_spec 32 0 4 2 (2 ^ 64 - 1) → styled_digits_output d s ≡ Some (two_hex n)
tag_text n d s l e f =
    ap (styled_digits_output d) f
    ∙ ap (option_map (padded_integral (format_spec 32 0 4 2 (2 ^ 64 - 1)) false (shown_prefix (format_spec 32 0 4 2 (2 ^ 64 - 1)) (radix_prefix d.base)))) e
    ∙ ap Some (hex_byte false n l)

-- what is printed, by what stands after the tag and the space
text_is : (o : Outcome) (d : _) (s : _) (n : ℕ) (told : Option Figures) (rest : List ℕ) → o.tag < 256 → digits_output d ≡ Some (digits 16 false o.tag) → s ≡ format_spec 32 0 4 2 (2 ^ 64 - 1) →
    n ≡ outcome_number o → told ≡ outcome_figures o → rest ≡ decimal n ++ figures_text told → (styled_digits_output d s ++? Some (32 ∷ rest)) ≡ Some (outcome_text o)
text_is o d s n told rest l e f number figures is =
    ap (λ (t : Option (List ℕ)). t ++? Some (32 ∷ rest)) (tag_text o.tag d s l e f)
    ∙ ap (λ (bs : List ℕ). Some (two_hex o.tag ++ (32 ∷ bs))) is
    ∙ ap (λ (k : ℕ). Some (two_hex o.tag ++ (32 ∷ (decimal k ++ figures_text told)))) number
    ∙ ap (λ (t : Option Figures). Some (two_hex o.tag ++ (32 ∷ (decimal (outcome_number o) ++ figures_text t)))) figures

pub returns-in-Some-clause-writes : goal.returns-in-Some-clause-writes
returns-in-Some-clause-writes g c =
    let is = text_is c.args.self.now c.in_radix.result c.laid_out.result _ (Some c.in-Some.figures) _ (search rules) c.in_radix.ensures c.laid_out.ensures c.number-number.ensures (search rules) refl in
    subst (λ (t : Option (List ℕ)). DisplaysOnOk g.W.Write.write_str_gives c.args.f.now c.write.result t c.write.new.self) is c.write.ensures.writes

pub returns-in-None-clause-writes : goal.returns-in-None-clause-writes
returns-in-None-clause-writes g c =
    let is = text_is c.args.self.now c.in_radix-in-None.result c.laid_out-in-None.result _ None _ (search rules) c.in_radix-in-None.ensures c.laid_out-in-None.ensures c.number-number.ensures (search rules) (sym (append-nil _)) in
    subst (λ (t : Option (List ℕ)). DisplaysOnOk g.W.Write.write_str_gives c.args.f.now c.write-in-None.result t c.write-in-None.new.self) is c.write-in-None.ensures.writes
