use Rattle.prof_told.proofs.Numbers.{decimal_is_exact, scaled_text_is_scaled, signed_decimal_is_exact}
use Rattle.prof_told.proofs.writes_numbers_truly.Goals as goal

pub returns : goal.returns
returns c = record { natural = decimal_is_exact; whole = signed_decimal_is_exact; scaled = scaled_text_is_scaled }
