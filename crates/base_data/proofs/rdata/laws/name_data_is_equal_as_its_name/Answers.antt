use Rattle.base_data.proofs.rdata.laws.name_data_is_equal_as_its_name.Goals as goal

pub returns : goal.returns
returns c = record {
  ns = λ a b. (λ h. h, λ h. h);
  cname = λ a b. (λ h. h, λ h. h);
  ptr =
      λ a b. (λ h. h, λ h. h);
  aname = λ a b. (λ h. h, λ h. h);
}
