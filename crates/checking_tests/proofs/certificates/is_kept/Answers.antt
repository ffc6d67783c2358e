use Rattle.checking_tests.proofs.certificates.is_kept.Goals as goal

pub is_text-requires : goal.is_text-requires
is_text-requires g c = c.in-Ok.ensures.text
