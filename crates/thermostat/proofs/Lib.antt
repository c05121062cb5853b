-- Laws on the definitions of the model thermostat, for the functions here and for the crates above.
pub mod Laws
